-- A text that grows from its end towards its beginning, and what is left to write of codes and names. Assumes nothing.
use Rattle.std.specs.Prelude.{◌≡◌, ℕ, ◌+◌, ◌≤◌, Bool, true, false, List, [], ◌∷◌, ◌++◌, map, length}
use Rattle.symbols.specs.NameRows.{row_bytes}
use Rattle.codes.specs.Tree.{Tree, postfix, leaves}
use Rattle.grammar.specs.Grammar.{sign}
use Rattle.grammar.specs.declared.Chain.{Chain}
use Rattle.grammar.specs.declared.Chain.TheVariants.{Choice, Seq}
use Rattle.text_writer.specs.declared.parts.Rest.{Rest}
use Rattle.text_writer.specs.declared.place.Place.{Place}
use Rattle.text_writer.specs.declared.place.Place.TheVariants.{Alone, Commas, Bars}
use Rattle.text_writer.specs.Written.{grouped, then_opens, either_opens, text}

-- there is room for s before the text d
abbrev pub Room : List ℕ → List ℕ → Type 0
Room d s = length s + length d ≤ 5890

-- s was put before the text d, which is e now, where there was room
abbrev pub Put : List ℕ → List ℕ → List ℕ → Type 0
Put d s e = Room d s → e ≡ s ++ d

-- a byte, if it is wanted
abbrev pub ended : Bool → ℕ → List ℕ
ended true b = b ∷ []
ended false b = []

-- the codes u and the names us are left to write
pub record Left (r : Rest) (u : List ℕ) (us : List (List ℕ)) : Type 0 where
  pub codes : r.codes.now ≡ u
  pub names : map row_bytes r.names.now ≡ us

-- where the last of what is left in r are the codes w and the names ms, they were written as s before the text d, and q is left
abbrev pub Said : Rest → List ℕ → List (List ℕ) → List ℕ → List ℕ → Rest → List ℕ → Type 0
Said r w ms s d q e = (u : List ℕ) (us : List (List ℕ)) → Left r (u ++ w) (us ++ ms) → Room d s → Left q u us × (e ≡ s ++ d)

-- where the last of what is left is the tree x, it was written at its place
abbrev pub SaidTree : Rest → Place → List ℕ → Rest → List ℕ → Type 0
SaidTree r p d q e = (x : Tree (List ℕ)) → Said r (postfix x) (leaves x) (text p x) d q e

-- whether a chain is a group of its own at a place; the place of its first part; and its text
abbrev pub chain_opens : Chain → Place → Bool
chain_opens Seq p = then_opens p
chain_opens Choice p = either_opens p

abbrev pub first_of : Chain → Place
first_of Seq = Commas
first_of Choice = Bars

abbrev pub chain_text : Chain → Place → Tree (List ℕ) → Tree (List ℕ) → List ℕ
chain_text g p a b = grouped (chain_opens g p) (text (first_of g) a ++ (sign g ∷ text Alone b))
