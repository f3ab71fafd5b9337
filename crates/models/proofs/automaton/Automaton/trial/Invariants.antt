use Rattle.std.proofs.Common.{◌≤◌, length, take}
use Rattle.language.specs.Meaning.{Model}
use Rattle.language.proofs.Reading.{Leads}
use Rattle.models.specs.TablesOf.{TablesOf}
use Rattle.models.proofs.automaton.Automaton.trial.Given as goal

abbrev pub invariant-loop-i : goal.invariant-loop-i
invariant-loop-i g l =
    (m : Model g.row.S.Denot) → TablesOf g.S.Symbol.same l.self.sets l.self.followers.now l.self.symbols.now m
    → Leads g.S.Symbol.same m 0 (take l.i l.word) l.state × (l.state ≤ length m.symbols)
