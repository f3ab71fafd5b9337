-- Words, and their order: a shorter word comes first; of two equally long ones, the one with the smaller label at the first difference.
use Rattle.std.specs.Prelude.{◌≡◌, ℕ, ◌<◌, ◌⊎◌, List, ◌∷◌, length}

-- a list of labels
abbrev pub Word : Type 0
Word = List ℕ

-- the words differ, and at the first place where they do, the left one has the smaller label
pub data Smaller : Word → Word → Type 0 where
  here : {a b : ℕ} {u v : Word} → a < b → Smaller (a ∷ u) (b ∷ v)
  later : {a : ℕ} {u v : Word} → Smaller u v → Smaller (a ∷ u) (a ∷ v)

-- the left word is shorter, or equally long and smaller at the first difference
abbrev pub Before : Word → Word → Type 0
Before u v = (length u < length v) ⊎ ((length u ≡ length v) × Smaller u v)

-- the left word is the right one, or comes before it
abbrev pub NotAfter : Word → Word → Type 0
NotAfter u v = (u ≡ v) ⊎ Before u v
