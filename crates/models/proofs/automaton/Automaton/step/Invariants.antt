use Rattle.std.proofs.Common.{◌≡◌, ℕ, ◌+◌, ◌<◌, true}
use Rattle.language.specs.Meaning.{like, symbol_at}
use Rattle.models.specs.Bitsets.{Bit}
use Rattle.models.proofs.automaton.Automaton.step.Given as goal

abbrev pub invariant-loop-y : goal.invariant-loop-y
invariant-loop-y g l = (k : ℕ) → k < l.y → Bit l.next k → like g.S.Symbol.same (symbol_at l.self.symbols.now (k + 1)) l.symbol ≡ true → ⊥
