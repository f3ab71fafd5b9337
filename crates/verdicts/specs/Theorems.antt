-- The theorems on texts and verdicts that contracts name. Assumes nothing.
use Rattle.std.specs.Prelude.{◌≡◌, ℕ, Bool, List}
use Rattle.faults.specs.declared.Fault.{Fault}
use Rattle.symbols.specs.declared.name_rows.NameRow.{NameRow}
use Rattle.language.specs.Meaning.{Model, Formed}
use Rattle.verdicts.specs.Texts.{TextOf, Gives, Faulty}
use Rattle.verdicts.specs.Verdicts.{Included, LeastMissed}

-- a text gives one model at most, has one fault at most, and never both
pub record OneMeaning : Type 0 where
  pub model : (t : List ℕ) (m n : Model NameRow) → Gives t m → Gives t n → m ≡ n
  pub fault : (t : List ℕ) (f g : Fault) → Faulty t f → Faulty t g → f ≡ g
  pub either : (t : List ℕ) (m : Model NameRow) (f : Fault) → Gives t m → Faulty t f → ⊥

-- the model of a text is well-formed
abbrev pub TextsAreFormed : Type 0
TextsAreFormed = (t : List ℕ) (m : Model NameRow) → TextOf t m → Formed m

-- a well-formed model that is included misses no word, and one that is not has one least word at most
pub record OneVerdict {S : Type 0} (same : S → S → Bool) : Type 0 where
  pub either : (m n : Model S) (w : List ℕ) → Formed m → Included same m n → LeastMissed same m n w → ⊥
  pub word : (m n : Model S) (w v : List ℕ) → LeastMissed same m n w → LeastMissed same m n v → w ≡ v
