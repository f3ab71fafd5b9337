use Rattle.std.proofs.Common.{◌≡◌, ◌+◌, length, sym, ◌∙◌, subst, ⊎_elim, arith}
use Rattle.std.proofs.lemmas.Bool.{false≢true, cases_lt, eqb-true, eq-eqb}
use Rattle.std.proofs.lemmas.Iterator.{YieldsList-from_slice}
use Rattle.std.proofs.lemmas.Iterator.Adapters.{YieldsList-from_skip}
use Rattle.std.proofs.lemmas.Iterator.Consumers.{YieldsList-from_enumerate, YieldsList-turn, YieldsList-end}
use Rattle.std.proofs.lemmas.List.{length_push}
use Rattle.language.proofs.Symbols.{agree_is}
use Rattle.models.specs.Clashes.{Opposes}
use Rattle.models.proofs.Skipped.{skipped, skipped_all}
use Rattle.models.proofs.pairs.opposing.Goals as goal
use Rattle.models.proofs.pairs.opposing.Goals.{else-has-via-then-has+else-same, else-has-via-else-has}

pub loop-y-init : goal.loop-y-init
loop-y-init g c k l o = omega (arith, o.rising)

pub returns-then-same : goal.returns-then-same
returns-then-same g c =
    let xs = c.args.symbols.now in
    let chain = YieldsList-from_skip (c.args.x + 1) (YieldsList-from_enumerate (YieldsList-from_slice xs cc) cc) cc in
    let at = skipped xs (c.args.x + 1) (length c.loop-y.yielded) c.in-Some.y c.in-Some.other.now
    (YieldsList-turn chain c.loop-y.yielded _ c.loop-y.yielded_by _ _ (c.in-Some.y, c.in-Some.other) c.in-Some.is c.next.ensures.steps) in (
      record {
        rising = omega (arith, at.index);
        within = at.within;
        agreed = agree_is g.S.Symbol.same xs c.args.x c.in-Some.y _ _ (omega arith) at.within c.requires.own at.item ∙ sym c.if-same.ensures;
        set = eqb-true _ 1 (sym c.if-has.ensures);
      },
      λ v h. ⊎_elim (λ l. absurd (c.loop-y.invariant v (omega (arith, at.index)) h)) (λ l. l) (cases_lt v c.in-Some.y),
    )

pub loop-y-preserved : goal.loop-y-preserved
loop-y-preserved g c k l h =
    let xs = c.args.symbols.now in
    let chain = YieldsList-from_skip (c.args.x + 1) (YieldsList-from_enumerate (YieldsList-from_slice xs cc) cc) cc in
    let at = skipped xs (c.args.x + 1) (length c.loop-y.yielded) c.in-Some.y c.in-Some.other.now
    (YieldsList-turn chain c.loop-y.yielded _ c.loop-y.yielded_by _ _ (c.in-Some.y, c.in-Some.other) c.in-Some.is c.next.ensures.steps) in
    let more = length_push c.loop-y.yielded (c.in-Some.y, c.in-Some.other) in
    ⊎_elim (λ l. c.loop-y.invariant k (omega (arith, at.index)) h)
    (λ ge. let e : k ≡ c.in-Some.y = omega (arith, at.index) in
    let o = subst (Opposes g.S.Symbol.same xs c.args.set c.args.x) e h in
    elim c.else-has.branch [
      | else-has-via-then-has+else-same w ↦
          false≢true (w.if-same.ensures ∙ sym (agree_is g.S.Symbol.same xs c.args.x c.in-Some.y _ _ (omega arith) at.within c.requires.own at.item) ∙ o.agreed)
      | else-has-via-else-has w ↦ false≢true (w.if-has.ensures ∙ eq-eqb _ 1 o.set)
    ])
    (cases_lt k c.in-Some.y)

pub returns : goal.returns
returns g c y l =
    let xs = c.args.symbols.now in
    let chain = YieldsList-from_skip (c.args.x + 1) (YieldsList-from_enumerate (YieldsList-from_slice xs cc) cc) cc in
    let end = YieldsList-end chain c.loop-y.yielded _ c.loop-y.yielded_by _ _ c.in-None.is c.next.ensures.steps in
    c.loop-y.invariant y (omega (arith, skipped_all xs (c.args.x + 1) (length c.loop-y.yielded) end.1))
