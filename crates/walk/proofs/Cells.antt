-- How many cells are used.
use Rattle.std.proofs.Common.{◌≡◌, ℕ, zero, suc, ◌+◌, ◌<◌, ◌≤◌, eqb, List, [], ◌∷◌, length, get_or, set, replicate, refl, arith}
use Rattle.std.proofs.lemmas.Bool.{eq-eqb, ne_eqb, cond-true, cond-false, cond_both}
use Rattle.walk.specs.Walk.{used}

pub used_le : (xs : List ℕ) → used xs ≤ length xs
used_le [] = omega arith
used_le (x ∷ xs) = cond_both (eqb x 0) 0 1 (λ n. n + used xs ≤ length (x ∷ xs)) (λ _. omega (arith, used_le xs)) (λ _. omega (arith, used_le xs))

pub used_room : (xs : List ℕ) (i : ℕ) → i < length xs → get_or xs i 0 ≡ 0 → used xs < length xs
used_room [] i h e = absurd (let z : ⊥ = omega arith in z)
used_room (x ∷ xs) zero h e = rw (cond-true {A = ℕ} (eqb x 0) 0 1 (eq-eqb x 0 e)) (omega (arith, used_le xs))
used_room (x ∷ xs) (suc i) h e =
    let r : used xs < length xs = used_room xs i (omega arith) e in
    cond_both (eqb x 0) 0 1 (λ n. n + used xs < length (x ∷ xs)) (λ _. omega arith) (λ _. omega arith)

pub used_set : (xs : List ℕ) (i y : ℕ) → i < length xs → get_or xs i 0 ≡ 0 → 0 < y → used (set xs i y) ≡ used xs + 1
used_set [] i y h e p = absurd (let z : ⊥ = omega arith in z)
used_set (x ∷ xs) zero y h e p =
    rw (cond-true {A = ℕ} (eqb x 0) 0 1 (eq-eqb x 0 e), cond-false {A = ℕ} (eqb y 0) 0 1 (ne_eqb y 0 (λ q. omega arith))) (omega arith)
used_set (x ∷ xs) (suc i) y h e p = omega (arith, used_set xs i y (omega arith) e p)

pub used_none : (n : ℕ) → used (replicate n 0) ≡ 0
used_none zero = refl
used_none (suc n) = omega (arith, used_none n)

pub get_or_none : (n i : ℕ) → get_or {A = ℕ} (replicate n 0) i 0 ≡ 0
get_or_none zero i = refl
get_or_none (suc n) zero = refl
get_or_none (suc n) (suc i) = get_or_none n i
