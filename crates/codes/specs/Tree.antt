-- Content models as trees, and their codes in postfix order. Assumes nothing.
use Rattle.std.specs.Prelude.{ℕ, List, [], ◌∷◌, ◌++◌}

-- a content model, with an A at each of its symbols: the empty word, a symbol, one part then another, either of two parts,
-- and a part under '?', '*' or '+'
pub data Tree (A : Type 0) : Type 0 where
  empty : Tree A
  leaf : A → Tree A
  then : Tree A → Tree A → Tree A
  either : Tree A → Tree A → Tree A
  maybe : Tree A → Tree A
  many : Tree A → Tree A
  some : Tree A → Tree A

-- the codes of a tree in postfix order: the parts of a node before the node
abbrev pub postfix : {A : Type 0} → Tree A → List ℕ
postfix empty = 0 ∷ []
postfix (leaf a) = 1 ∷ []
postfix (then l r) = postfix l ++ (postfix r ++ (2 ∷ []))
postfix (either l r) = postfix l ++ (postfix r ++ (3 ∷ []))
postfix (maybe e) = postfix e ++ (4 ∷ [])
postfix (many e) = postfix e ++ (5 ∷ [])
postfix (some e) = postfix e ++ (6 ∷ [])

-- what stands at the symbols of a tree, from left to right
abbrev pub leaves : {A : Type 0} → Tree A → List A
leaves empty = []
leaves (leaf a) = a ∷ []
leaves (then l r) = leaves l ++ leaves r
leaves (either l r) = leaves l ++ leaves r
leaves (maybe e) = leaves e
leaves (many e) = leaves e
leaves (some e) = leaves e
