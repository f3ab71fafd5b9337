-- How deep the brackets of a text go. Assumes nothing.
use Rattle.std.proofs.Common.{ℕ, ◌+◌, max, Bool, true, false, List}
use Rattle.codes.specs.Tree.{Tree, empty, leaf, then, either, maybe, many, some}
use Rattle.symbols.specs.Rule.{IsName}
use Rattle.text_writer.specs.declared.place.Place.{Place}
use Rattle.text_writer.specs.declared.place.Place.TheVariants.{Alone, Commas, Bars, Marked}
use Rattle.text_writer.specs.Written.{then_opens, either_opens, mark_opens}

abbrev pub deeper : Bool → ℕ → ℕ
deeper true n = n + 1
deeper false n = n

-- how many brackets are open at once in the text of a part
abbrev pub nest : Place → Tree (List ℕ) → ℕ
nest p empty = 0
nest p (leaf n) = 0
nest p (then l r) = deeper (then_opens p) (max (nest Commas l) (nest Alone r))
nest p (either l r) = deeper (either_opens p) (max (nest Bars l) (nest Alone r))
nest p (maybe e) = deeper (mark_opens p) (nest Marked e)
nest p (many e) = deeper (mark_opens p) (nest Marked e)
nest p (some e) = deeper (mark_opens p) (nest Marked e)

-- no part is the empty word, and each symbol is a name
abbrev pub Named : Tree (List ℕ) → Type 0
Named empty = ⊥
Named (leaf n) = IsName n
Named (then l r) = Named l × Named r
Named (either l r) = Named l × Named r
Named (maybe e) = Named e
Named (many e) = Named e
Named (some e) = Named e
