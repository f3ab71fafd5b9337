-- The bytes of a name. Assumes nothing.
use Rattle.std.proofs.Common.{◌≡◌, ℕ, zero, suc, ◌<◌, Bool, true, cond, ◌||◌, List, length, get_or, sym, ap, ◌∙◌, arith}
use Rattle.std.proofs.lemmas.Bool.{ne_eqb}
use Rattle.symbols.specs.Rule.{start, only, inner, allowed, IsName}

pub later_allowed : (m b : ℕ) → allowed (suc m) b ≡ inner b
later_allowed m b = ap (λ (v : Bool). cond v (start b) (inner b)) (ne_eqb (suc m) 0 (λ e. omega arith))

allowed_inner : (k b : ℕ) → allowed k b ≡ true → inner b ≡ true
allowed_inner zero b h = ap (λ (v : Bool). v || only b) h
allowed_inner (suc k) b h = sym (later_allowed k b) ∙ h

pub inner_at : (n : List ℕ) → IsName n → (k : ℕ) → k < length n → inner (get_or n k 0) ≡ true
inner_at n f k h = allowed_inner k (get_or n k 0) (f.2 k h)
