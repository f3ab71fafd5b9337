-- What an editor is told of two texts. Assumes nothing.
use Rattle.std.specs.Prelude.{◌≡◌, ℕ, ◌+◌, List}
use Rattle.faults.specs.declared.Fault.{Fault}
use Rattle.faults.specs.Card.{number}
use Rattle.symbols.specs.NameRows.{name_same}
use Rattle.symbols.specs.declared.name_rows.NameRow.{NameRow}
use Rattle.language.specs.Meaning.{Model}
use Rattle.verdicts.specs.Texts.{Gives, Faulty}
use Rattle.verdicts.specs.Verdicts.{Included, LeastMissed}

-- The number for the texts t and u: 0 where both give models and that of t is included in that of u, 1 where it is not, which some least word shows;
-- 100 and the number of its fault where t gives no model, and otherwise 200 and the number of its fault where u gives none.
pub data Told (t u : List ℕ) : ℕ → Type 0 where
  included : {m n : Model NameRow} {r : ℕ} → Gives t m → Gives u n → Included name_same m n → r ≡ 0 → Told t u r
  not_included : {m n : Model NameRow} {w : List ℕ} {r : ℕ} → Gives t m → Gives u n → LeastMissed name_same m n w → r ≡ 1 → Told t u r
  first_faulty : {f : Fault} {r : ℕ} → Faulty t f → r ≡ 100 + number f → Told t u r
  second_faulty : {m : Model NameRow} {f : Fault} {r : ℕ} → Gives t m → Faulty u f → r ≡ 200 + number f → Told t u r

-- two texts have one number
abbrev pub OneNumber : Type 0
OneNumber = (t u : List ℕ) (r s : ℕ) → Told t u r → Told t u s → r ≡ s
