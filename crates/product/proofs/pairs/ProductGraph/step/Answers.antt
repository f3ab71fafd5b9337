use Rattle.std.proofs.Common.{refl, ◌∙◌, arith}
use Rattle.product.proofs.Steps.{has_symbol, pair_small, leads_to}
use Rattle.product.proofs.pairs.ProductGraph.step.Goals as goal

pub advance-next-requires : goal.advance-next-requires
advance-next-requires g c =
    let p = c.args.self.now in
    has_symbol p.model.sets p.model.followers.now p.model.symbols.now _ _ c.args.label refl c.if-not-may_follow.ensures

pub overflow_add-result : goal.overflow_add-result
overflow_add-result g c =
    let p = c.args.self.now in
    let small = pair_small p.model.sets p.model.followers.now p.model.symbols.now _ _ c.args.label refl c.if-not-may_follow.ensures
    (g.R.Reader.table p.reader.now) (g.R.Reader.sound p.reader.now) c.from-width.result _ c.advance-next.result (c.from-width.ensures ∙ c.states.ensures) c.advance-next.ensures in
    omega (arith, small)

pub returns : goal.returns
returns g c =
    let p = c.args.self.now in
    leads_to p.model.sets p.model.followers.now p.model.symbols.now (g.R.Reader.table p.reader.now) c.args.node c.args.label c.advance-next.result
    _ c.from-width.result refl (c.from-width.ensures ∙ c.states.ensures) c.if-not-may_follow.ensures c.advance-next.ensures
