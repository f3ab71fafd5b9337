-- Two positions with the same symbol in the tables of a model, as the search for them sees it: positions are counted from 0 here.
-- Assumes nothing.
use Rattle.std.specs.Prelude.{◌≡◌, ℕ, ◌+◌, ◌<◌, ◌≤◌, Bool, true, ◌⊎◌, List, length, Some, None, Option, slice_index}
use Rattle.language.specs.Meaning.{agree, symbol_at}
use Rattle.models.specs.declared.pairs.Pair.{Pair}
use Rattle.models.specs.Bitsets.{Bit}

-- both are in the first set, or both in one of the first n rows
abbrev pub Share : ℕ → List ℕ → ℕ → ℕ → ℕ → Type 0
Share first rows n x y = (Bit first x × Bit first y) ⊎ ((z : ℕ) × (z < n) × Bit (slice_index rows z) x × Bit (slice_index rows z) y)

-- the bits of a are the positions that share a set with x
abbrev pub Shares : ℕ → ℕ → List ℕ → ℕ → ℕ → Type 0
Shares a first rows n x = (y : ℕ) → (Bit a y → Share first rows n x y) × (Share first rows n x y → Bit a y)

module _ {S : Type 0} (same : S → S → Bool) (symbols : List S) where
  -- y is past x, in the set a, and has the same symbol
  pub record Opposes (a x y : ℕ) : Type 0 where
    pub rising : x < y
    pub within : y < length symbols
    pub agreed : agree same (symbol_at symbols (x + 1)) (symbol_at symbols (y + 1)) ≡ true
    pub set : Bit a y

  -- the least that does, below n
  abbrev pub Opposing : ℕ → ℕ → ℕ → Option ℕ → Type 0
  Opposing a x n None = (y : ℕ) → y < n → Opposes a x y → ⊥
  Opposing a x n (Some y) = Opposes a x y × ((v : ℕ) → Opposes a x v → y ≤ v)

  -- x and y, in this order, have the same symbol and share a set
  pub record Clash (first : ℕ) (rows : List ℕ) (x y : ℕ) : Type 0 where
    pub rising : x < y
    pub within : y < length symbols
    pub agreed : agree same (symbol_at symbols (x + 1)) (symbol_at symbols (y + 1)) ≡ true
    pub share : Share first rows (length rows) x y

  -- the least pair that clashes, whose first is below n
  abbrev pub Found : ℕ → List ℕ → ℕ → Option Pair → Type 0
  Found first rows n None = (x y : ℕ) → x < n → Clash first rows x y → ⊥
  Found first rows n (Some p) =
      (x : ℕ) × (y : ℕ) × (p ≡ record { first = x + 1; second = y + 1 }) × Clash first rows x y
      × ((u v : ℕ) → Clash first rows u v → (x < u) ⊎ ((x ≡ u) × (y ≤ v)))
