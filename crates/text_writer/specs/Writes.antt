-- What the writer answers. Assumes nothing.
use Rattle.std.specs.Prelude.{◌≡◌, ℕ, ◌<◌, ◌≤◌, ◌⊎◌, List, [], ◌++◌, map, length, get_or, drop, Ok, Err, Result, ◌≢◌, slice_index, slice_index_or}
use Rattle.faults.specs.declared.Fault.{Fault}
use Rattle.faults.specs.declared.Fault.TheVariants.{TooDeep, ShortList, Unwritable}
use Rattle.faults.specs.declared.Layer.TheVariants.{Text}
use Rattle.symbols.specs.Rule.{IsName}
use Rattle.symbols.specs.NameRows.{row_bytes}
use Rattle.symbols.specs.declared.name_rows.NameRow.{NameRow}
use Rattle.codes.specs.Tree.{Tree, postfix, leaves}
use Rattle.codes.specs.Checked as checked
use Rattle.grammar.specs.Grammar.{Model}
use Rattle.grammar.specs.Trees.{Plain}
use Rattle.text_writer.specs.Written.{written}
use Rattle.text_writer.specs.Levels.{Shallow, FirstDeep}

-- code 0 stands among other codes, first at i
pub record FirstEmpty (cs : List ℕ) (i : ℕ) : Type 0 where
  pub others : 1 < length cs
  pub inside : i < length cs
  pub here : get_or cs i 0 ≡ 0
  pub first : (k : ℕ) → k < i → slice_index cs k ≢ 0

-- code 0 stands alone or nowhere
abbrev pub NoneEmpty : List ℕ → Type 0
NoneEmpty cs = (length cs ≤ 1) ⊎ ((k : ℕ) → k < length cs → slice_index cs k ≢ 0)

-- the first of the symbols that is no name stands at i
pub record FirstNoName (ns : List (List ℕ)) (i : ℕ) : Type 0 where
  pub inside : i < length ns
  pub here : IsName (slice_index_or ns i []) → ⊥
  pub first : (k : ℕ) → k < i → IsName (slice_index_or ns k [])

-- each of the symbols is a name
abbrev pub AllNames : List (List ℕ) → Type 0
AllNames ns = (k : ℕ) → k < length ns → IsName (slice_index_or ns k [])

-- the codes and names are those of the tree x, which a text can say
pub record Sayable (cs : List ℕ) (ns : List (List ℕ)) (x : Tree (List ℕ)) : Type 0 where
  pub formed : checked.WellFormed (length ns) cs
  pub codes : cs ≡ postfix x
  pub names : ns ≡ leaves x
  pub plain : Plain x
  pub named : AllNames ns

-- why codes and names are not written into a list of so many cells, in the order in which it is judged
pub data Refused (cs : List ℕ) (ns : List (List ℕ)) (cells : ℕ) : Fault → Type 0 where
  ill_formed : {f : Fault} → checked.Refused (length ns) cs f → Refused cs ns cells f
  empty_part : {i : ℕ} → checked.WellFormed (length ns) cs → FirstEmpty cs i → Refused cs ns cells (Unwritable i)
  no_name : {i : ℕ} → checked.WellFormed (length ns) cs → NoneEmpty cs → FirstNoName ns i → Refused cs ns cells (Unwritable i)
  too_deep : {x : Tree (List ℕ)} {k : ℕ} → Sayable cs ns x → FirstDeep (written x) k → Refused cs ns cells (TooDeep k)
  no_room : {x : Tree (List ℕ)} {n : ℕ} → Sayable cs ns x → Shallow (written x) → n ≡ length (written x) → cells < n → Refused cs ns cells (ShortList Text n)

-- the text of the tree stands first in the list, all else is as before, and the text reads back to the same codes and names
pub record Wrote (cs : List ℕ) (ns : List (List ℕ)) (out : List ℕ) (n : ℕ) (out' : List ℕ) : Type 0 where
  pub tree : Tree (List ℕ)
  pub sayable : Sayable cs ns tree
  pub shallow : Shallow (written tree)
  pub count : n ≡ length (written tree)
  pub room : n ≤ length out
  pub text : out' ≡ written tree ++ drop n out
  pub reads : Model (written tree) 32 16 cs ns
  pub short : n < 65536

-- the list out becomes out'
abbrev pub Writes : List ℕ → List NameRow → List ℕ → Result ℕ Fault → List ℕ → Type 0
Writes cs rs out (Ok n) out' = Wrote cs (map row_bytes rs) out n out'
Writes cs rs out (Err f) out' = Refused cs (map row_bytes rs) (length out) f × (out' ≡ out)

-- a text is copied to the beginning of a list, or the list is too short for it
abbrev pub Copied : List ℕ → List ℕ → Result ℕ Fault → List ℕ → Type 0
Copied s out (Ok n) out' = (n ≡ length s) × (n ≤ length out) × (out' ≡ s ++ drop n out)
Copied s out (Err f) out' = (length out < length s) × (f ≡ ShortList Text (length s)) × (out' ≡ out)

-- there is one answer, and one content of the list afterwards
abbrev pub OneAnswer : Type 0
OneAnswer = (cs : List ℕ) (rs : List NameRow) (out : List ℕ) (r r' : Result ℕ Fault) (o o' : List ℕ) → Writes cs rs out r o → Writes cs rs out r' o' → (r' ≡ r) × (o' ≡ o)
