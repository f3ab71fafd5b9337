-- The levels of brackets in a text. Assumes nothing.
use Rattle.std.specs.Prelude.{◌≡◌, ℕ, ◌+◌, ◌-◌, ◌<◌, ◌≤◌, cond, List, [], ◌∷◌, take, ◌==◌, slice_index, slice_index_or}

-- how many brackets are open behind a byte, where d are open before it
abbrev pub passed : ℕ → ℕ → ℕ
passed d b = cond (b == 40) (d + 1) (cond (b == 41) (d - 1) d)

-- how many brackets are open behind a text, where d are open before it
abbrev pub level : ℕ → List ℕ → ℕ
level d [] = d
level d (b ∷ s) = level (passed d b) s

-- no bracket opens a seventeenth level
abbrev pub Shallow : List ℕ → Type 0
Shallow t = (i : ℕ) → slice_index t i ≡ 40 → level 0 (take i t) < 16

-- the bracket at k is the first that opens a seventeenth level
pub record FirstDeep (t : List ℕ) (k : ℕ) : Type 0 where
  pub bracket : slice_index_or t k 0 ≡ 40
  pub deep : 16 ≤ level 0 (take k t)
  pub first : (i : ℕ) → i < k → slice_index t i ≡ 40 → level 0 (take i t) < 16
