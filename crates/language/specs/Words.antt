-- The marked words of a content model: its words spelled by positions, so that each symbol of a word tells where in the model it stands.
-- Assumes nothing.
use Rattle.std.specs.Prelude.{◌≡◌, ℕ, ◌⊎◌, List, [], ◌∷◌, ◌++◌}
use Rattle.codes.specs.Tree.{Tree, empty, leaf, then, either, maybe, many, some, leaves}
use Rattle.codes.specs.Checked.{above}

-- a content model with a position at each of its symbols
abbrev pub Expr : Type 0
Expr = Tree ℕ

-- the symbols of the model are numbered from 1 to n, from left to right
abbrev pub Numbered : ℕ → Expr → Type 0
Numbered n e = leaves e ≡ above 0 n

-- the lists joined, first to last
abbrev pub joined : List (List ℕ) → List ℕ
joined [] = []
joined (p ∷ ps) = p ++ joined ps

-- P holds of each of the lists
abbrev pub Each : (List ℕ → Type 0) → List (List ℕ) → Type 0
Each P [] = Unit {0}
Each P (p ∷ ps) = P p × Each P ps

-- w is a marked word of the model
abbrev pub Marked : Expr → List ℕ → Type 0
Marked empty w = w ≡ []
Marked (leaf k) w = w ≡ k ∷ []
Marked (then l r) w = (u : List ℕ) × (v : List ℕ) × (w ≡ u ++ v) × Marked l u × Marked r v
Marked (either l r) w = Marked l w ⊎ Marked r w
Marked (maybe e) w = (w ≡ []) ⊎ Marked e w
Marked (many e) w = (ps : List (List ℕ)) × (w ≡ joined ps) × Each (Marked e) ps
Marked (some e) w = (p : List ℕ) × (ps : List (List ℕ)) × (w ≡ joined (p ∷ ps)) × Marked e p × Each (Marked e) ps

-- some marked word begins with x
abbrev pub Begins : Expr → ℕ → Type 0
Begins e x = (v : List ℕ) × Marked e (x ∷ v)

-- some marked word ends with x
abbrev pub Ends : Expr → ℕ → Type 0
Ends e x = (u : List ℕ) × Marked e (u ++ (x ∷ []))

-- some marked word has x directly before y: y is a follower of x
abbrev pub Follows : Expr → ℕ → ℕ → Type 0
Follows e x y = (u : List ℕ) × (v : List ℕ) × Marked e (u ++ (x ∷ (y ∷ v)))

-- x stands in some marked word
abbrev pub Occurs : Expr → ℕ → Type 0
Occurs e x = (u : List ℕ) × (v : List ℕ) × Marked e (u ++ (x ∷ v))

-- two marked words share a beginning, and then one goes on with x, the other with y
abbrev pub Parts : Expr → ℕ → ℕ → Type 0
Parts e x y = (u : List ℕ) × (v : List ℕ) × (v' : List ℕ) × Marked e (u ++ (x ∷ v)) × Marked e (u ++ (y ∷ v'))
