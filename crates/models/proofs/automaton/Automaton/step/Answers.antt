use Rattle.std.proofs.Common.{◌≡◌, ◌+◌, true, sym, ◌∙◌, subst, ⊎_elim, arith}
use Rattle.std.proofs.lemmas.Bool.{false≢true, cases_lt, eqb-true, eq-eqb}
use Rattle.std.proofs.lemmas.List.{length-take}
use Rattle.language.specs.Meaning.{like, symbol_at}
use Rattle.models.specs.Bitsets.{Bit}
use Rattle.models.proofs.Automata.{like_taken, step_some, step_none}
use Rattle.models.proofs.automaton.Automaton.step.Goals as goal
use Rattle.models.proofs.automaton.Automaton.step.Goals.{else-has-via-then-has+else-same, else-has-via-else-has}

pub returns-then-same : goal.returns-then-same
returns-then-same g c =
    let same = g.S.Symbol.same in
    let xs = c.args.self.now.symbols.now in
    let y = c.loop-y.y in
    step_some same c.args.self.now.sets c.args.self.now.followers.now xs c.args.state c.args.symbol.now c.next_positions-next.result c.next_positions-next.ensures
    y c.loop-y.invariant (eqb-true _ 1 (sym c.if-has.ensures))
    (like_taken same xs c.positions-n.result y c.args.symbol.now c.other-item.result c.loop-y-test.true c.other-item.is ∙ sym c.if-same.ensures)

pub loop-y-preserved : goal.loop-y-preserved
loop-y-preserved g c k l b h =
    ⊎_elim (λ l. c.loop-y.invariant k l b h)
    (λ ge. let e : k ≡ c.loop-y.y = omega arith in
    let set = subst (Bit c.next_positions-next.result) e b in
    let agrees = subst (λ i. like g.S.Symbol.same (symbol_at c.args.self.now.symbols.now (i + 1)) c.args.symbol.now ≡ true) e h in
    elim c.else-has.branch [
      | else-has-via-then-has+else-same w ↦
          false≢true (w.if-same.ensures ∙ sym (like_taken g.S.Symbol.same c.args.self.now.symbols.now c.positions-n.result c.loop-y.y c.args.symbol.now c.other-item.result c.loop-y-test.true c.other-item.is) ∙ agrees)
      | else-has-via-else-has w ↦ false≢true (w.if-has.ensures ∙ eq-eqb _ 1 set)
    ])
    (cases_lt k c.loop-y.y)

pub returns : goal.returns
returns g c =
    let l = length-take c.positions-n.result c.args.self.now.symbols.now in
    step_none g.S.Symbol.same c.args.self.now.sets c.args.self.now.followers.now c.args.self.now.symbols.now c.args.state c.args.symbol.now
    c.next_positions-next.result c.next_positions-next.ensures c.loop-y.y c.loop-y.invariant c.next_positions-next.type_inv (omega arith)
