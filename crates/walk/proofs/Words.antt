-- The order of words, and words with one more label.
use Rattle.std.proofs.Common.{◌≡◌, ℕ, ◌<◌, [], ◌∷◌, ◌++◌, length, refl, ap, ◌∙◌, inl, inr, arith}
use Rattle.std.proofs.lemmas.List.{length_push}
use Rattle.walk.specs.Order.{Word, Smaller, Before, NotAfter}
use Rattle.walk.specs.Order.Smaller.{here, later}

pub smaller_trans : {u v w : Word} → Smaller u v → Smaller v w → Smaller u w
smaller_trans (here p) (here q) = here (omega arith)
smaller_trans (here p) (later t) = here p
smaller_trans (later s) (here q) = here q
smaller_trans (later s) (later t) = later (smaller_trans s t)

pub smaller_more : {u v : Word} (a b : ℕ) → Smaller u v → Smaller (u ++ a ∷ []) (v ++ b ∷ [])
smaller_more a b (here p) = here p
smaller_more a b (later s) = later (smaller_more a b s)

pub smaller_last : (u : Word) (a b : ℕ) → a < b → Smaller (u ++ a ∷ []) (u ++ b ∷ [])
smaller_last [] a b p = here p
smaller_last (x ∷ u) a b p = later (smaller_last u a b p)

pub before_trans : (u v w : Word) → Before u v → Before v w → Before u w
before_trans u v w (inl p) (inl q) = inl (omega arith)
before_trans u v w (inl p) (inr q) = inl (omega arith)
before_trans u v w (inr p) (inl q) = inl (omega arith)
before_trans u v w (inr p) (inr q) = inr (omega arith, smaller_trans p.1 q.1)

-- one label more at the end of each, whichever it is
pub before_more : (u v : Word) (a b : ℕ) → Before u v → Before (u ++ a ∷ []) (v ++ b ∷ [])
before_more u v a b (inl p) = inl (omega (arith, length_push u a, length_push v b))
before_more u v a b (inr p) = inr (omega (arith, length_push u a, length_push v b), smaller_more a b p.1)

pub before_last : (u : Word) (a b : ℕ) → a < b → Before (u ++ a ∷ []) (u ++ b ∷ [])
before_last u a b p = inr (omega (arith, length_push u a, length_push u b), smaller_last u a b p)

pub before_longer : (u : Word) (a : ℕ) → Before u (u ++ a ∷ [])
before_longer u a = inl (omega (arith, length_push u a))

pub notafter_trans : (u v w : Word) → NotAfter u v → NotAfter v w → NotAfter u w
notafter_trans u v w (inl p) (inl q) = inl (p ∙ q)
notafter_trans u v w (inl p) (inr q) = rw p (inr q)
notafter_trans u v w (inr p) (inl q) = rw q at (let r : NotAfter u v = inr p in r)
notafter_trans u v w (inr p) (inr q) = inr (before_trans u v w p q)

pub notafter_more : (u v : Word) (a : ℕ) → NotAfter u v → NotAfter (u ++ a ∷ []) (v ++ a ∷ [])
notafter_more u v a (inl p) = inl (ap (λ x. x ++ a ∷ []) p)
notafter_more u v a (inr p) = inr (before_more u v a a p)

smaller_apart : {u v : Word} → u ≡ v → Smaller u v → ⊥
smaller_apart e (here {a} {b} p) = let m : a ≡ b = cc in omega arith
smaller_apart e (later {a} {u} {v} s) = let m : u ≡ v = cc in smaller_apart m s

-- no word comes before itself
pub before_apart : (u v : Word) → u ≡ v → Before u v → ⊥
before_apart u v e (inl p) = omega (arith, ap length e)
before_apart u v e (inr p) = smaller_apart e p.1

pub before_notafter : (u v w : Word) → Before u v → NotAfter v w → Before u w
before_notafter u v w p (inl e) = rw (← e) p
before_notafter u v w p (inr q) = before_trans u v w p q

pub before_not : (u v : Word) → Before u v → NotAfter v u → ⊥
before_not u v p q = before_apart u u refl (before_notafter u v u p q)

pub notafter_both : (u v : Word) → NotAfter u v → NotAfter v u → u ≡ v
notafter_both u v (inl e) q = e
notafter_both u v (inr p) q = absurd (before_not u v p q)
