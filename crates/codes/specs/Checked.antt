-- Which lists of codes are those of a model, and where any other list is at fault. Assumes nothing.
use Rattle.std.specs.Prelude.{◌≡◌, ℕ, zero, suc, ◌+◌, ◌<◌, ◌≤◌, List, [], ◌∷◌, ◌++◌, length, take, Ok, Err, Result}
use Rattle.faults.specs.declared.Fault.{Fault}
use Rattle.faults.specs.declared.Fault.TheVariants.{TooLarge, Malformed}
use Rattle.faults.specs.declared.Layer.TheVariants.{Model}
use Rattle.codes.specs.Tree.{Tree, postfix, leaves}

-- the k numbers above a, rising
abbrev pub above : ℕ → ℕ → List ℕ
above a zero = []
above a (suc k) = (a + 1) ∷ above (a + 1) k

-- cs are the codes of the tree e, whose n symbols are numbered from 1 to n from left to right
pub record CodesOf (n : ℕ) (cs : List ℕ) (e : Tree ℕ) : Type 0 where
  pub codes : cs ≡ postfix e
  pub places : leaves e ≡ above 0 n

-- cs begins the codes of some tree with n symbols
abbrev pub Begins : ℕ → List ℕ → Type 0
Begins n cs = (rest : List ℕ) × (e : Tree ℕ) × CodesOf n (cs ++ rest) e

-- cs are the codes of no tree with n symbols, and i is the length of its longest beginning that also begins such codes:
-- the index of the first code at fault, or the number of codes where only the end is
pub record FirstFault (n : ℕ) (cs : List ℕ) (i : ℕ) : Type 0 where
  pub none : (e : Tree ℕ) → CodesOf n cs e → ⊥
  pub within : i ≤ length cs
  pub begins : Begins n (take i cs)
  pub most : (k : ℕ) → k ≤ length cs → Begins n (take k cs) → k ≤ i

-- why codes over n symbols are refused: the number of symbols is judged first, then that of codes
pub data Refused (n : ℕ) (cs : List ℕ) : Fault → Type 0 where
  many_symbols : 64 < n → Refused n cs (TooLarge Model 64)
  many_codes : n ≤ 64 → 1280 < length cs → Refused n cs (TooLarge Model 1280)
  malformed : {i : ℕ} → n ≤ 64 → length cs ≤ 1280 → FirstFault n cs i → Refused n cs (Malformed i)

-- within the limits, and the codes of a tree
pub record WellFormed (n : ℕ) (cs : List ℕ) : Type 0 where
  pub few : n ≤ 64
  pub short : length cs ≤ 1280
  pub tree : Tree ℕ
  pub codes : CodesOf n cs tree

-- the answer to codes over n symbols
abbrev pub Checked : ℕ → List ℕ → Result (Unit {0}) Fault → Type 0
Checked n cs (Ok u) = WellFormed n cs
Checked n cs (Err f) = Refused n cs f
