-- Which trees a text can give. Assumes nothing.
use Rattle.std.specs.Prelude.{◌≡◌, ℕ, ◌⊎◌, List}
use Rattle.codes.specs.Tree.{Tree, empty, leaf, then, either, maybe, many, some, postfix, leaves}

-- no part of the tree is the empty word
abbrev pub Solid : {A : Type 0} → Tree A → Type 0
Solid empty = ⊥
Solid (leaf a) = Unit {0}
Solid (then l r) = Solid l × Solid r
Solid (either l r) = Solid l × Solid r
Solid (maybe e) = Solid e
Solid (many e) = Solid e
Solid (some e) = Solid e

-- the empty word alone, or a tree without it
abbrev pub Plain : {A : Type 0} → Tree A → Type 0
Plain x = (x ≡ empty) ⊎ Solid x

-- w are the codes of such a tree, and ns the names at its symbols
abbrev pub IsTree : List ℕ → List (List ℕ) → Type 0
IsTree w ns = (x : Tree (List ℕ)) × Plain x × (w ≡ postfix x) × (ns ≡ leaves x)
