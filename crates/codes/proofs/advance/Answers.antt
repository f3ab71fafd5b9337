use Rattle.std.proofs.Common.{◌∷◌, refl, arith}
use Rattle.codes.specs.Tree.{empty}
use Rattle.codes.proofs.Counts.{decoded, fresh_advances, two_advances, one_advances}
use Rattle.codes.proofs.advance.Goals as goal

pub returns-in-Empty-clause-made : goal.returns-in-Empty-clause-made
returns-in-Empty-clause-made c =
    let e = decoded c.args.code c.try_from.result c.in_ok-ok.field-0 c.try_from.ensures c.in_ok-ok.ensures.value in
    λ s k. rw (← e, c.in-Empty.is) (empty ∷ s, refl, omega arith)

pub returns-in-Symbol-clause-made : goal.returns-in-Symbol-clause-made
returns-in-Symbol-clause-made c =
    let e = decoded c.args.code c.try_from.result c.in_ok-ok.field-0 c.try_from.ensures c.in_ok-ok.ensures.value in
    λ s k. rw (← e, c.in-Symbol.is) (fresh_advances c.args.symbols c.args.tally.used c.args.tally.parts s c.if-used-symbols.true k)

pub returns-in-Then-clause-made : goal.returns-in-Then-clause-made
returns-in-Then-clause-made c =
    let e = decoded c.args.code c.try_from.result c.in_ok-ok.field-0 c.try_from.ensures c.in_ok-ok.ensures.value in
    λ s k. rw (← e) (two_advances c.args.symbols c.args.tally.used c.args.tally.parts c.in_ok-ok.field-0 s c.in-Then.is (omega arith) k)

pub returns-in-Optional-clause-made : goal.returns-in-Optional-clause-made
returns-in-Optional-clause-made c =
    let e = decoded c.args.code c.try_from.result c.in_ok-ok.field-0 c.try_from.ensures c.in_ok-ok.ensures.value in
    λ s k. rw (← e) (one_advances c.args.symbols c.args.tally.used c.args.tally.parts c.in_ok-ok.field-0 s c.in-Optional.is (omega arith) k)
