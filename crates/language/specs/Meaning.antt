-- What a model means: its words over symbols, and the positions that compete. Assumes nothing.
use Rattle.std.specs.Prelude.{◌≡◌, ℕ, zero, suc, ◌<◌, ◌≤◌, Bool, true, false, ◌≢◌, ◌⊎◌, List, [], ◌∷◌, ◌++◌, length, take, Some, None, Option}
use Rattle.codes.specs.Tree.{empty}
use Rattle.codes.specs.Build.{Built, model, fault, build}
use Rattle.codes.specs.Checked.{WellFormed}
use Rattle.language.specs.Words.{Expr, Marked, Parts}

-- a model as it comes: postfix codes, and a symbol for each position
pub record Model (S : Type 0) : Type 0 where
  pub codes : List ℕ
  pub symbols : List S

-- the tree, where one was built
abbrev pub built_tree : Built → Expr
built_tree (model e) = e
built_tree (fault i) = empty

-- the tree that codes over n symbols build; of no use where they build none
abbrev pub tree_of : ℕ → List ℕ → Expr
tree_of n cs = built_tree (build n cs)

module _ {S : Type 0} where
  -- the model of these codes and symbols
  abbrev pub given : List ℕ → List S → Model S
  given cs xs = record { codes = cs; symbols = xs }

  -- the tree of a model
  abbrev pub body : Model S → Expr
  body m = tree_of (length m.symbols) m.codes

  -- the model is within the limits, and its codes are those of a tree with its symbols
  abbrev pub Formed : Model S → Type 0
  Formed m = WellFormed (length m.symbols) m.codes

  -- the symbol of position x, counted from 1
  abbrev pub symbol_at : List S → ℕ → Option S
  symbol_at xs zero = None
  symbol_at [] (suc x) = None
  symbol_at (a ∷ xs) (suc zero) = Some a
  symbol_at (a ∷ xs) (suc (suc x)) = symbol_at xs (suc x)

  -- a symbol, if there is one, put before a word
  abbrev pub before : Option S → List S → List S
  before None s = s
  before (Some a) s = a ∷ s

  -- the symbols of a list of positions
  abbrev pub spelled : List S → List ℕ → List S
  spelled xs [] = []
  spelled xs (x ∷ w) = before (symbol_at xs x) (spelled xs w)

module _ {S : Type 0} (same : S → S → Bool) where
  -- there is a symbol, and it is the same as a
  abbrev pub like : Option S → S → Bool
  like None a = false
  like (Some b) a = same b a

  -- there are two symbols, and they are the same
  abbrev pub agree : Option S → Option S → Bool
  agree o None = false
  agree o (Some b) = like o b

  -- the positions w spell the word s: as many, and each with the same symbol
  abbrev pub Spells : List S → List ℕ → List S → Type 0
  Spells xs [] [] = Unit {0}
  Spells xs [] (a ∷ s) = ⊥
  Spells xs (x ∷ w) [] = ⊥
  Spells xs (x ∷ w) (a ∷ s) = (like (symbol_at xs x) a ≡ true) × Spells xs w s

  -- s is a word of the model: some marked word spells it
  abbrev pub Word : Model S → List S → Type 0
  Word m s = (w : List ℕ) × Marked (body m) w × Spells m.symbols w s

  -- s begins a word of the model
  abbrev pub Beginning : Model S → List S → Type 0
  Beginning m s = (v : List S) × Word m (s ++ v)

  -- n is the length of the longest beginning of s that also begins a word of the model
  pub record Longest (m : Model S) (s : List S) (n : ℕ) : Type 0 where
    pub within : n ≤ length s
    pub begins : Beginning m (take n s)
    pub most : (k : ℕ) → k ≤ length s → Beginning m (take k s) → k ≤ n

  -- two positions compete: they have the same symbol, and two marked words that share a beginning go on with one and with the other
  abbrev pub Competes : Model S → ℕ → ℕ → Type 0
  Competes m x y = (x ≢ y) × (agree (symbol_at m.symbols x) (symbol_at m.symbols y) ≡ true) × Parts (body m) x y

  -- no two positions compete
  abbrev pub Unambiguous : Model S → Type 0
  Unambiguous m = (x y : ℕ) → Competes m x y → ⊥

  -- of the pairs that compete, the one with the least x, then the least y
  pub record LeastCompeting (m : Model S) (x y : ℕ) : Type 0 where
    pub rising : x < y
    pub compete : Competes m x y
    pub least : (u v : ℕ) → u < v → Competes m u v → (x < u) ⊎ ((x ≡ u) × (y ≤ v))
