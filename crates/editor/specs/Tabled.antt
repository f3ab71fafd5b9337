-- What is kept of a text that gives a model. Assumes nothing.
use Rattle.std.specs.Prelude.{◌≡◌, ℕ, ◌+◌, ◌*◌, Bool, true, false, List, length, take, Ok, Err, Result, Some, None, Option}
use Rattle.faults.specs.declared.Fault.{Fault}
use Rattle.symbols.specs.NameRows.{name_same}
use Rattle.symbols.specs.declared.name_rows.NameRow.{NameRow}
use Rattle.language.specs.Meaning.{Model}
use Rattle.models.specs.TablesOf.{TablesOf}
use Rattle.verdicts.specs.Texts.{Gives, Faulty}
use Rattle.verdicts.specs.Verdicts.{Included, LeastMissed}
use Rattle.editor.specs.declared.studying.Studied.{Studied}

-- the names that are kept
abbrev pub names_of : Studied → List NameRow
names_of k = take k.count k.names

-- the names, the followers and the sets are those of the model m
pub record Tabled (k : Studied) (m : Model NameRow) : Type 0 where
  pub tables : TablesOf name_same k.sets k.followers (names_of k) m
  pub count : k.count ≡ length m.symbols

-- a text is studied: what is kept is that of the model that it gives; or it gives none, and f is why
abbrev pub StudiedAs : List ℕ → Result Studied Fault → Type 0
StudiedAs t (Ok k) = (m : Model NameRow) × Gives t m × Tabled k m
StudiedAs t (Err f) = Faulty t f

-- how many pairs there are of a state of the first model and a state of the second's reader, which may be stuck
abbrev pub pairs_of : Studied → Studied → ℕ
pairs_of j k = (j.count + 1) * (k.count + 2)

-- whether the first is included in the second
abbrev pub Says : Model NameRow → Model NameRow → Bool → Type 0
Says m n true = Included name_same m n
Says m n false = (w : List ℕ) × LeastMissed name_same m n w

-- what a comparison says of that; one that is refused says nothing
abbrev pub included_in : Result (Option ℕ) Fault → Bool
included_in (Ok None) = true
included_in (Ok (Some l)) = false
included_in (Err f) = false
