use Rattle.std.proofs.Common.{◌≡◌, ◌+◌, ◌-◌, ◌<◌, [], ◌∷◌, ◌++◌, length, drop, set, sym, ap, ◌∙◌, arith}
use Rattle.std.proofs.lemmas.List.{drop-set, append_assoc}
use Rattle.walk.specs.Walk.{label_of}
use Rattle.walk.proofs.Traces.{last_link, traced_none}
use Rattle.walk.proofs.Search.spell.Goals as goal

pub link-link-requires : goal.link-link-requires
link-link-requires g c =
    let i = c.loop-place.invariant.1 c.requires.traced.0 c.requires.traced.1 in
    let s = last_link i.1 (omega arith) in
    (s.place, s.node)

pub overflow_sub-left : goal.overflow_sub-left
overflow_sub-left g c =
    let i = c.loop-place.invariant.1 c.requires.traced.0 c.requires.traced.1 in
    let s = last_link i.1 (omega arith) in
    omega (arith, i.2, s.long)

pub bounds-word-left : goal.bounds-word-left
bounds-word-left g c =
    let i = c.loop-place.invariant.1 c.requires.traced.0 c.requires.traced.1 in
    let s = last_link i.1 (omega arith) in
    omega (arith, i.2, s.long, c.requires.room)

pub loop-place-smaller : goal.loop-place-smaller
loop-place-smaller g c =
    let i = c.loop-place.invariant.1 c.requires.traced.0 c.requires.traced.1 in
    let s = last_link i.1 (omega arith) in
    rw (c.parent-place.ensures, c.link-link.ensures, s.is) s.falls

pub loop-place-preserved : goal.loop-place-preserved
loop-place-preserved g c = (
  omega (arith, c.loop-place.invariant.0),
  λ v t.
      let i = c.loop-place.invariant.1 v t in
      let s = last_link i.1 (omega arith) in
      let xs = c.loop-place.word in
      let k = c.loop-place.left - 1 in
      let a = label_of s.link in
      let n : k + 1 ≡ c.loop-place.left = omega (arith, i.2, s.long) in
      let p : k < length xs = omega (arith, n, c.loop-place.invariant.0, c.requires.room) in
      let d : drop k (set xs k a) ≡ a ∷ drop c.loop-place.left xs = drop-set xs k a p ∙ ap (λ m. a ∷ drop m xs) n in
      let j : s.rest ++ drop k (set xs k a) ≡ v ++ drop c.args.len c.args.word.now = ap (λ ys. s.rest ++ ys) d ∙ sym (append_assoc s.rest (a ∷ []) (drop c.loop-place.left xs)) ∙ ap (λ w. w ++ drop c.loop-place.left xs) (sym s.ends) ∙ i.3 in
      rw (c.parent-place.ensures, c.label.ensures, c.link-link.ensures, s.is) (s.rest, s.traced, omega (arith, n, i.2, s.long), j),
)

pub returns : goal.returns
returns g c = λ v t.
    let i = c.loop-place.invariant.1 v t in
    let e = traced_none i.1 c.loop-place-test.false in
    let z : c.loop-place.left ≡ 0 = omega (arith, i.2, ap length e) in
    ap (λ n. drop n c.loop-place.word) (sym z) ∙ ap (λ w. w ++ drop c.loop-place.left c.loop-place.word) (sym e) ∙ i.3
