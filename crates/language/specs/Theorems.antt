-- The theorems on marked words that contracts name. Assumes nothing.
use Rattle.std.specs.Prelude.{◌≡◌, ℕ, ◌<◌, ◌≤◌, ◌⊎◌, List, []}
use Rattle.codes.specs.Checked.{CodesOf}
use Rattle.language.specs.Words.{Expr, Numbered, Marked, Begins, Ends, Follows, Occurs, Parts}
use Rattle.language.specs.Sets.{Nullable, First, Last, Follow, Local}
use Rattle.language.specs.Meaning.{tree_of}

-- each of two statements gives the other
abbrev pub Same : Type 0 → Type 0 → Type 0
Same P Q = (P → Q) × (Q → P)

-- the tree that codes build is the one whose codes they are
abbrev pub TreeOfCodes : Type 0
TreeOfCodes = (n : ℕ) (cs : List ℕ) (e : Expr) → CodesOf n cs e → tree_of n cs ≡ e

-- a list of positions is a marked word exactly when the sets of the model allow it
abbrev pub LocalWords : Type 0
LocalWords = (n : ℕ) (e : Expr) → Numbered n e → (w : List ℕ) → Same (Marked e w) (Local e w)

-- each position from 1 to n, and no other, stands in some marked word
abbrev pub PositionsOccur : Type 0
PositionsOccur = (n : ℕ) (e : Expr) → Numbered n e → (x : ℕ) → Same ((0 < x) × (x ≤ n)) (Occurs e x)

-- the sets of the model e are what begins, ends and follows in its marked words
pub record ExactSets (e : Expr) : Type 0 where
  pub nullable : Same (Nullable e) (Marked e [])
  pub first : (x : ℕ) → Same (First e x) (Begins e x)
  pub last : (x : ℕ) → Same (Last e x) (Ends e x)
  pub follow : (x y : ℕ) → Same (Follow e x y) (Follows e x y)

-- so it is for every model
abbrev pub SetsExact : Type 0
SetsExact = (e : Expr) → ExactSets e

-- both positions begin a marked word, or both follow one position
abbrev pub Rivals : Expr → ℕ → ℕ → Type 0
Rivals e x y = (Begins e x × Begins e y) ⊎ ((z : ℕ) × Follows e z x × Follows e z y)

-- two marked words part at x and y exactly where both begin, or both follow one position
abbrev pub Parting : Type 0
Parting = (n : ℕ) (e : Expr) → Numbered n e → (x y : ℕ) → Same (Parts e x y) (Rivals e x y)
