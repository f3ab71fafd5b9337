-- The least place that fits, in words. Assumes nothing.
use Rattle.std.specs.Prelude.{◌≡◌, ℕ, ◌+◌, ◌<◌, Bool, true, false, List, length}
use Rattle.std.specs.List.{HoldsAt}
use Rattle.tables.specs.Places.{bit}

-- the place k, counted from 0, is set in the row, and its symbol is the same as a
pub record Fits {S : Type 0} (same : S → S → Bool) (row : ℕ) (a : S) (xs : List S) (i k : ℕ) : Type 0 where
  pub within : k < length xs
  pub set : bit row (i + k) ≡ true
  pub like : HoldsAt (λ s. same s a ≡ true) xs k

-- no place below n fits
abbrev pub NoneBelow : {S : Type 0} → (S → S → Bool) → ℕ → S → List S → ℕ → ℕ → Type 0
NoneBelow same row a xs i n = (k : ℕ) → k < n → bit row (i + k) ≡ true → HoldsAt (λ s. same s a ≡ false) xs k

-- y is the least place that fits, counted from 1, where the first has the bit i
pub record Least {S : Type 0} (same : S → S → Bool) (row : ℕ) (a : S) (xs : List S) (i y : ℕ) : Type 0 where
  pub place : ℕ
  pub counted : y ≡ i + place + 1
  pub fits : Fits same row a xs i place
  pub first : NoneBelow same row a xs i place
