-- The text that is written for a tree with a name's bytes at each symbol. Assumes nothing.
use Rattle.std.specs.Prelude.{ℕ, Bool, true, false, cond, List, [], ◌∷◌, ◌++◌, codes, ◌==◌, slice_index}
use Rattle.codes.specs.Tree.{Tree, empty, leaf, then, either, maybe, many, some}
use Rattle.text_writer.specs.declared.place.Place.{Place}
use Rattle.text_writer.specs.declared.place.Place.TheVariants.{Alone, Commas, Bars, Marked}

-- in brackets, or as it is
abbrev pub grouped : Bool → List ℕ → List ℕ
grouped true s = 40 ∷ (s ++ (41 ∷ []))
grouped false s = s

-- whether a chain of then is a group of its own: not where it goes on a chain of commas
abbrev pub then_opens : Place → Bool
then_opens Alone = true
then_opens Commas = false
then_opens Bars = true
then_opens Marked = true

-- whether a chain of either is a group of its own: not where it goes on a chain of bars
abbrev pub either_opens : Place → Bool
either_opens Alone = true
either_opens Commas = true
either_opens Bars = false
either_opens Marked = true

-- whether a part that ends in a mark is bracketed: where another mark follows
abbrev pub mark_opens : Place → Bool
mark_opens Alone = false
mark_opens Commas = false
mark_opens Bars = false
mark_opens Marked = true

-- a part with its mark
abbrev pub with_sign : Place → ℕ → List ℕ → List ℕ
with_sign p sign s = grouped (mark_opens p) (s ++ (sign ∷ []))

-- a part of the text: a chain of then along its left parts is one group with commas, and either likewise with bars
abbrev pub text : Place → Tree (List ℕ) → List ℕ
text p empty = codes "EMPTY"
text p (leaf n) = n
text p (then l r) = grouped (then_opens p) (text Commas l ++ (44 ∷ text Alone r))
text p (either l r) = grouped (either_opens p) (text Bars l ++ (124 ∷ text Alone r))
text p (maybe e) = with_sign p 63 (text Marked e)
text p (many e) = with_sign p 42 (text Marked e)
text p (some e) = with_sign p 43 (text Marked e)

-- text that does not begin with a bracket is bracketed
abbrev pub bracketed : List ℕ → List ℕ
bracketed s = cond (slice_index s 0 == 40) s (grouped true s)

-- the whole text
abbrev pub written : Tree (List ℕ) → List ℕ
written empty = codes "EMPTY"
written (leaf n) = bracketed (text Alone (leaf n))
written (then l r) = bracketed (text Alone (then l r))
written (either l r) = bracketed (text Alone (either l r))
written (maybe e) = bracketed (text Alone (maybe e))
written (many e) = bracketed (text Alone (many e))
written (some e) = bracketed (text Alone (some e))
