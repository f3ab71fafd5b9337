use Rattle.std.proofs.Common.{◌-◌, length, get_or, take, arith}
use Rattle.std.proofs.lemmas.List.{take_more_set}
use Rattle.codes.specs.Tree.{then, either, maybe, many, some}
use Rattle.codes.proofs.Counts.{decoded}
use Rattle.models.specs.Machine.{no_sets}
use Rattle.models.proofs.Stacks.{top_of, top_set, rows_then, rows_either, rows_some}
use Rattle.models.proofs.OneCode.{empty_advanced, leaf_advanced, unary_advanced, binary_advanced}
use Rattle.models.proofs.machine.Machine.advance.Goals as goal

pub returns-in-Empty-clause-made : goal.returns-in-Empty-clause-made
returns-in-Empty-clause-made c s k m =
    let e = decoded c.args.code c.try_from.result c.in_ok-ok.field-0 c.try_from.ensures c.in_ok-ok.ensures.value in
    let ps = c.args.parts.now in
    let rs = c.args.rows.now in
    let d = c.args.self.now.depth in
    let u = c.args.self.now.used in
    rw (← e, c.in-Empty.is)
    (empty_advanced (take d ps) _ c.of_empty.result rs u (take_more_set ps d c.of_empty.result c.requires.room) c.of_empty.ensures s k m)

pub returns-in-Symbol-clause-made : goal.returns-in-Symbol-clause-made
returns-in-Symbol-clause-made c s k m =
    let e = decoded c.args.code c.try_from.result c.in_ok-ok.field-0 c.try_from.ensures c.in_ok-ok.ensures.value in
    let ps = c.args.parts.now in
    let rs = c.args.rows.now in
    let d = c.args.self.now.depth in
    let u = c.args.self.now.used in
    rw (← e, c.in-Symbol.is)
    (leaf_advanced (take d ps) _ c.of_position.result rs u (length rs) c.if-self-rows.true (take_more_set ps d c.of_position.result c.requires.room) c.of_position.ensures s k m)

pub returns-in-Then-clause-made : goal.returns-in-Then-clause-made
returns-in-Then-clause-made c s k m =
    let e = decoded c.args.code c.try_from.result c.in_ok-ok.field-0 c.try_from.ensures c.in_ok-ok.ensures.value in
    let ps = c.args.parts.now in
    let rs = c.args.rows.now in
    let d = c.args.self.now.depth in
    let u = c.args.self.now.used in
    let l = get_or ps (d - 2) no_sets in
    let r = get_or ps (d - 1) no_sets in
    rw (← e, c.in-Then.is)
    (binary_advanced then (take d ps) (take (d - 1) ps) (take (d - 2) ps) _ l r c.then.result rs c.link.new.rows u
    (top_of ps (d - 1) d (omega arith) (omega arith)) (top_of ps (d - 2) (d - 1) (omega arith) (omega arith)) (top_set ps (d - 2) (d - 1) c.then.result (omega arith) (omega arith))
    c.then.ensures (λ v w t a b n. rows_then rs c.link.new.rows l r v w t c.link.ensures a b n) s k m)

pub returns-in-Either-clause-made : goal.returns-in-Either-clause-made
returns-in-Either-clause-made c s k m =
    let e = decoded c.args.code c.try_from.result c.in_ok-ok.field-0 c.try_from.ensures c.in_ok-ok.ensures.value in
    let ps = c.args.parts.now in
    let rs = c.args.rows.now in
    let d = c.args.self.now.depth in
    let u = c.args.self.now.used in
    let l = get_or ps (d - 2) no_sets in
    let r = get_or ps (d - 1) no_sets in
    rw (← e, c.in-Either.is)
    (binary_advanced either (take d ps) (take (d - 1) ps) (take (d - 2) ps) _ l r c.or.result rs rs u
    (top_of ps (d - 1) d (omega arith) (omega arith)) (top_of ps (d - 2) (d - 1) (omega arith) (omega arith)) (top_set ps (d - 2) (d - 1) c.or.result (omega arith) (omega arith))
    c.or.ensures (λ v w t a b n. rows_either rs v w t n) s k m)

pub returns-in-Optional-clause-made : goal.returns-in-Optional-clause-made
returns-in-Optional-clause-made c s k m =
    let e = decoded c.args.code c.try_from.result c.in_ok-ok.field-0 c.try_from.ensures c.in_ok-ok.ensures.value in
    let ps = c.args.parts.now in
    let rs = c.args.rows.now in
    let d = c.args.self.now.depth in
    let u = c.args.self.now.used in
    let t = get_or ps (d - 1) no_sets in
    rw (← e, c.in-Optional.is)
    (unary_advanced maybe (take d ps) (take (d - 1) ps) _ t c.optional.result rs rs u
    (top_of ps (d - 1) d (omega arith) (omega arith)) (top_set ps (d - 1) d c.optional.result (omega arith) (omega arith))
    c.optional.ensures.maybe (λ v w a n. n) s k m)

pub returns-in-Star-clause-made : goal.returns-in-Star-clause-made
returns-in-Star-clause-made c s k m =
    let e = decoded c.args.code c.try_from.result c.in_ok-ok.field-0 c.try_from.ensures c.in_ok-ok.ensures.value in
    let ps = c.args.parts.now in
    let rs = c.args.rows.now in
    let d = c.args.self.now.depth in
    let u = c.args.self.now.used in
    let t = get_or ps (d - 1) no_sets in
    rw (← e, c.in-Star.is)
    (unary_advanced many (take d ps) (take (d - 1) ps) _ t c.optional-in-Star.result rs c.link-in-Star.new.rows u
    (top_of ps (d - 1) d (omega arith) (omega arith)) (top_set ps (d - 1) d c.optional-in-Star.result (omega arith) (omega arith))
    c.optional-in-Star.ensures.many (λ v w a n. rows_some rs c.link-in-Star.new.rows t v w c.link-in-Star.ensures a n) s k m)

pub returns-in-Plus-clause-made : goal.returns-in-Plus-clause-made
returns-in-Plus-clause-made c s k m =
    let e = decoded c.args.code c.try_from.result c.in_ok-ok.field-0 c.try_from.ensures c.in_ok-ok.ensures.value in
    let ps = c.args.parts.now in
    let rs = c.args.rows.now in
    let d = c.args.self.now.depth in
    let u = c.args.self.now.used in
    let t = get_or ps (d - 1) no_sets in
    rw (← e, c.in-Plus.is)
    (unary_advanced some (take d ps) (take (d - 1) ps) _ t c.repeated.result rs c.link-in-Plus.new.rows u
    (top_of ps (d - 1) d (omega arith) (omega arith)) (top_set ps (d - 1) d c.repeated.result (omega arith) (omega arith))
    c.repeated.ensures (λ v w a n. rows_some rs c.link-in-Plus.new.rows t v w c.link-in-Plus.ensures a n) s k m)
