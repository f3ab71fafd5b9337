-- What a text means: a model of names that is not ambiguous, or a fault. Assumes nothing.
use Rattle.std.specs.Prelude.{◌≡◌, ℕ, ◌≤◌, List, map, length}
use Rattle.faults.specs.declared.Fault.{Fault}
use Rattle.faults.specs.declared.Fault.TheVariants.{Ambiguous}
use Rattle.symbols.specs.NameRows.{name_row, name_same}
use Rattle.symbols.specs.declared.name_rows.NameRow.{NameRow}
use Rattle.language.specs.Meaning.{Model, given, Unambiguous, LeastCompeting}
use Rattle.text_reader.specs.Answer.{Within, Refused}

-- the text, of at most 65,535 bytes, is a model within the limits by the productions: m has its codes, and a row for each of its names
pub record TextOf (t : List ℕ) (m : Model NameRow) : Type 0 where
  pub short : length t ≤ 65535
  pub codes : List ℕ
  pub names : List (List ℕ)
  pub within : Within t codes names
  pub model : m ≡ given codes (map name_row names)

-- the text gives the model m: it is the text of m, and m is not ambiguous
pub record Gives (t : List ℕ) (m : Model NameRow) : Type 0 where
  pub text : TextOf t m
  pub clear : Unambiguous name_same m

-- the reader of text refuses t for f, whatever lists are lent to it that are long enough
abbrev pub Unread : List ℕ → Fault → Type 0
Unread t f = (cs : List ℕ) (rs : List NameRow) → 1280 ≤ length cs → 64 ≤ length rs → Refused t cs rs f

-- why a text gives no model: it is not read; or it is the text of a model in which positions compete, and the fault names the least pair
pub data Faulty (t : List ℕ) : Fault → Type 0 where
  unread : {f : Fault} → Unread t f → Faulty t f
  ambiguous : {m : Model NameRow} {x y : ℕ} → TextOf t m → LeastCompeting name_same m x y → Faulty t (Ambiguous x y)
