-- For a graph and two lists there is one answer.
use Rattle.std.proofs.Common.{◌≡◌, ◌++◌, length, drop, Some, None, Ok, Err, sym, refl, ap, ◌∙◌, arith}
use Rattle.walk.specs.declared.Shortage.TheVariants.{Work, Word as WordCells}
use Rattle.walk.specs.Order.{Word}
use Rattle.walk.specs.Graph.{LabelledGraph, LeastWanted}
use Rattle.walk.specs.Laws.{OneAnswer}
use Rattle.walk.proofs.Words.{notafter_both}

-- there is one least wanted word
least_wanted_one : {G : LabelledGraph} {u v : Word} → LeastWanted G u → LeastWanted G v → u ≡ v
least_wanted_one {u = u} {v = v} U V = notafter_both u v (U.least v V.is_wanted) (V.least u U.is_wanted)

pub one : OneAnswer
one G work word work₁ word₁ work₂ word₂ (Err (Work m)) (Err (Work n)) p q =
    (ap (λ c. Err (Work c)) (p.needed ∙ sym q.needed), p.same_word ∙ sym q.same_word)
one G work word work₁ word₁ work₂ word₂ (Err (WordCells m)) (Err (WordCells n)) p q =
    (ap (λ c. Err (WordCells c)) (p.needed ∙ sym q.needed), p.same_word ∙ sym q.same_word)
one G work word work₁ word₁ work₂ word₂ (Ok None) (Ok None) p q = (refl, p.same_word ∙ sym q.same_word)
one G work word work₁ word₁ work₂ word₂ (Ok (Some m)) (Ok (Some n)) p q =
    let e : p.found ≡ q.found = least_wanted_one p.least q.least in
    let l : m ≡ n = sym p.long ∙ ap length e ∙ q.long in
    (ap (λ c. Ok (Some c)) l, p.written ∙ ap (λ w. w ++ drop m word) e ∙ ap (λ c. q.found ++ drop c word) l ∙ sym q.written)
one G work word work₁ word₁ work₂ word₂ (Err (Work m)) (Err (WordCells n)) p q = absurd (let z : ⊥ = omega (arith, p.needed, p.short, q.room_work) in z)
one G work word work₁ word₁ work₂ word₂ (Err (Work m)) (Ok None) p q = absurd (let z : ⊥ = omega (arith, p.needed, p.short, q.room_work) in z)
one G work word work₁ word₁ work₂ word₂ (Err (Work m)) (Ok (Some n)) p q = absurd (let z : ⊥ = omega (arith, p.needed, p.short, q.room_work) in z)
one G work word work₁ word₁ work₂ word₂ (Err (WordCells m)) (Err (Work n)) p q = absurd (let z : ⊥ = omega (arith, q.needed, q.short, p.room_work) in z)
one G work word work₁ word₁ work₂ word₂ (Err (WordCells m)) (Ok None) p q = absurd (let z : ⊥ = omega (arith, p.needed, p.short, q.room_word) in z)
one G work word work₁ word₁ work₂ word₂ (Err (WordCells m)) (Ok (Some n)) p q = absurd (let z : ⊥ = omega (arith, p.needed, p.short, q.room_word) in z)
one G work word work₁ word₁ work₂ word₂ (Ok None) (Err (Work n)) p q = absurd (let z : ⊥ = omega (arith, q.needed, q.short, p.room_work) in z)
one G work word work₁ word₁ work₂ word₂ (Ok None) (Err (WordCells n)) p q = absurd (let z : ⊥ = omega (arith, q.needed, q.short, p.room_word) in z)
one G work word work₁ word₁ work₂ word₂ (Ok None) (Ok (Some n)) p q = absurd (p.none q.found q.least.is_wanted)
one G work word work₁ word₁ work₂ word₂ (Ok (Some m)) (Err (Work n)) p q = absurd (let z : ⊥ = omega (arith, q.needed, q.short, p.room_work) in z)
one G work word work₁ word₁ work₂ word₂ (Ok (Some m)) (Err (WordCells n)) p q = absurd (let z : ⊥ = omega (arith, q.needed, q.short, p.room_word) in z)
one G work word work₁ word₁ work₂ word₂ (Ok (Some m)) (Ok None) p q = absurd (q.none p.found p.least.is_wanted)
