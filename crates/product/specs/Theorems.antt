-- The theorems on comparisons that contracts name. Assumes nothing.
use Rattle.std.specs.Prelude.{◌≡◌, ℕ, ◌*◌, ◌≤◌, Bool, ◌↔◌, List, length, Ok, Result, None, Option}
use Rattle.faults.specs.declared.Fault.{Fault}
use Rattle.language.specs.Words.{Marked}
use Rattle.language.specs.Meaning.{Model, body, Formed, Word}
use Rattle.tables.specs.Tables.{Table}
use Rattle.tables.specs.Words.{Takes}
use Rattle.product.specs.Compares.{pairs, CompareSays}

module _ {S : Type 0} (same : S → S → Bool) where
  -- for a well-formed model, a table and two lists there is one answer, and one word list that is given back with it
  abbrev pub OneComparison : Type 0
  OneComparison =
      (t : Table S) (m : Model S) → Formed m → (work : ℕ) (word word₁ word₂ : List ℕ) (a b : Result (Option ℕ) Fault)
      → CompareSays same t m work word a word₁ → CompareSays same t m work word b word₂ → (a ≡ b) × (word₁ ≡ word₂)

  -- with room in both lists, the answer is `Ok None` exactly when the table takes every word of the model
  abbrev pub IncludedExactly : Type 0
  IncludedExactly =
      (t : Table S) (m : Model S) → Formed m → (work : ℕ) (word word' : List ℕ) (r : Result (Option ℕ) Fault)
      → 2 * pairs t m ≤ work → pairs t m ≤ length word → CompareSays same t m work word r word'
      → (r ≡ Ok None) ↔ ((s : List S) → Word same m s → Takes t s)

  -- two models with the same symbols and the same marked words have the same answers
  abbrev pub SameWords : Type 0
  SameWords =
      (t : Table S) (m k : Model S) → m.symbols ≡ k.symbols → ((w : List ℕ) → Marked (body m) w ↔ Marked (body k) w)
      → (work : ℕ) (word word' : List ℕ) (r : Result (Option ℕ) Fault) → CompareSays same t m work word r word' → CompareSays same t k work word r word'
