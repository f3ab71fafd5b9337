-- A search through places, one place more. Assumes nothing.
use Rattle.std.proofs.Common.{◌≡◌, ℕ, zero, suc, ◌+◌, ◌/◌, ◌%◌, ◌^◌, ◌<◌, ◌≤◌, min, Bool, true, false, cond, ◌&&◌, eqb, List, [], ◌∷◌, length, get_or, take, drop, Some, None, sym, refl, ap, ◌∙◌, add-one, arith}
use lib.Bits.{bit_and}
use Rattle.std.proofs.lemmas.Nat.{and_mask}
use Rattle.std.proofs.lemmas.List.{at_drop_more, length-take, get_or-take, drop_all}
use native.Mathlib.Nat.{zero-div}
use Rattle.std.proofs.lemmas.Bool.{cond-false, and_left, eq-eqb, ne_eqb}
use Rattle.tables.specs.Places.{bit, sought}

pub bit_read : (row k : ℕ) → eqb (bit_and (row / 2 ^ k) 1) 1 ≡ bit row k
bit_read row k = ap (λ n. eqb n 1) (and_mask (row / 2 ^ k) 1)

abbrev tail : {S : Type 0} → List S → List S
tail [] = []
tail (x ∷ xs) = xs

tail_drop' : {S : Type 0} (ys : List S) (k : ℕ) → tail (drop k ys) ≡ drop (suc k) ys
tail_drop' [] zero = refl
tail_drop' [] (suc k) = refl
tail_drop' (y ∷ ys) zero = refl
tail_drop' (y ∷ ys) (suc k) = tail_drop' ys k

tail_drop : {S : Type 0} (ys : List S) (k : ℕ) → tail (drop k ys) ≡ drop (k + 1) ys
tail_drop ys k = tail_drop' ys k ∙ ap (λ n. drop n ys) (sym (add-one k))

module _ {S : Type 0} (same : S → S → Bool) (row : ℕ) (a : S) (xs : List S) (i : ℕ) where
  pub sought_step : (s : S) → i < 64 → i < length xs → s ≡ get_or xs i s →
      sought same row a i (drop i (take 64 xs)) ≡ cond (bit row i && same s a) (Some (i + 1)) (sought same row a (i + 1) (drop (i + 1) (take 64 xs)))
  sought_step s h k r =
      at_drop_more (sought same row a i) (take 64 xs) i s (simp length-take (omega arith)) ∙
      ap (λ b. cond (bit row i && same b a) (Some (i + 1)) (sought same row a (i + 1) (drop (i + 1) (take 64 xs)))) (get_or-take 64 xs i s h ∙ sym r)

  pub sought_all : min 64 (length xs) ≤ i → sought same row a i (drop i (take 64 xs)) ≡ None
  sought_all h = ap (sought same row a i) (drop_all i (take 64 xs) (simp length-take h))

  -- a place whose bit is clear is passed over
  pub sought_skip : bit row i ≡ false → sought same row a i (drop i (take 64 xs)) ≡ sought same row a (i + 1) (drop (i + 1) (take 64 xs))
  sought_skip h = skipped (take 64 xs) i
    where
      over : (ys : List S) → sought same row a i ys ≡ sought same row a (i + 1) (tail ys)
      over [] = refl
      over (y ∷ ys) = cond-false _ _ _ (and_left (bit row i) (same y a) h)

      skipped : (ys : List S) (k : ℕ) → sought same row a i (drop k ys) ≡ sought same row a (i + 1) (drop (k + 1) ys)
      skipped ys k = over (drop k ys) ∙ ap (sought same row a (i + 1)) (tail_drop ys k)

pub bit_set : (row k : ℕ) → bit_and (row / 2 ^ k) 1 ≡ 1 → bit row k ≡ true
bit_set row k e = sym (bit_read row k) ∙ eq-eqb _ 1 e

pub bit_clear : (row k : ℕ) → (bit_and (row / 2 ^ k) 1 ≡ 1 → ⊥) → bit row k ≡ false
bit_clear row k n = sym (bit_read row k) ∙ ne_eqb _ 1 n

pub bit_none : (k : ℕ) → bit 0 k ≡ false
bit_none k = ap (λ n. eqb (n % 2) 1) (zero-div (2 ^ k))

pub sought_none : {S : Type 0} (same : S → S → Bool) (a : S) (i : ℕ) (xs : List S) → sought same 0 a i xs ≡ None
sought_none same a i [] = refl
sought_none same a i (x ∷ xs) = cond-false _ _ _ (and_left (bit 0 i) (same x a) (bit_none i)) ∙ sought_none same a (i + 1) xs
