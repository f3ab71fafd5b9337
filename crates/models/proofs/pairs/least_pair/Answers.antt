use Rattle.std.proofs.Common.{◌≡◌, sym, refl, subst, inl, inr, ⊎_elim, arith}
use Rattle.std.proofs.lemmas.Bool.{cases_lt, cases_order}
use Rattle.models.specs.Clashes.{Clash}
use Rattle.models.proofs.Sharing.{opposes_clash, clash_opposes}
use Rattle.models.proofs.pairs.least_pair.Goals as goal

pub returns-in-Some : goal.returns-in-Some
returns-in-Some g c =
    let same = g.S.Symbol.same in
    let xs = c.args.symbols.now in
    let rows = c.args.rows.now in
    let first = c.args.first in
    let x = c.loop-x.x in
    let set = c.sharing-set.result in
    let o = c.in-Some.ensures in (
      x,
      c.in-Some.y,
      refl,
      opposes_clash same xs set first rows x c.in-Some.y c.sharing-set.ensures o.0,
      λ u v h. elim (cases_order x u) [
        | inl e ↦ inr (e, o.1 v (clash_opposes same xs set first rows x v c.sharing-set.ensures (subst (λ z. Clash same xs first rows z v) (sym e) h)))
        | inr (inl lt) ↦ inl lt
        | inr (inr lt) ↦ absurd (c.loop-x.invariant u v lt h)
      ],
    )

pub loop-x-preserved : goal.loop-x-preserved
loop-x-preserved g c u v l h =
    ⊎_elim (λ lt. c.loop-x.invariant u v lt h)
    (λ ge. let e : u ≡ c.loop-x.x = omega arith in
    let k = subst (λ z. Clash g.S.Symbol.same c.args.symbols.now c.args.first c.args.rows.now z v) e h in
    c.in_default.ensures v k.within
    (clash_opposes g.S.Symbol.same c.args.symbols.now c.sharing-set.result c.args.first c.args.rows.now c.loop-x.x v c.sharing-set.ensures k))
    (cases_lt u c.loop-x.x)
