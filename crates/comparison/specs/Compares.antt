-- What a comparison of a place with a reader answers and writes: exactly, whatever the cells hold, and by what the place holds. Assumes nothing.
use Rattle.std.specs.Prelude.{◌≡◌, ℕ, Bool, true, false, List, Some, None, Err, Option, Result}
use Rattle.faults.specs.declared.Fault.{Fault}
use Rattle.faults.specs.declared.Fault.TheVariants as fault
use Rattle.language.specs.Meaning.{Model}
use Rattle.tables.specs.Tables.{Table}
use Rattle.product.specs.Pairs.{product}
use Rattle.product.specs.Compares.{Searched, CompareSays}
use Rattle.shelf.specs.declared.records.Summary.{Summary}
use Rattle.shelf.specs.Places.{State, front, record_at, has}

-- In what follows, `work` and `word` are the two lists as lent, and `work'` and `word'` as given back.

-- the comparison is refused for f, and leaves both lists
abbrev pub Refuses : Fault → List ℕ → List ℕ → Result (Option ℕ) Fault → List ℕ → List ℕ → Type 0
Refuses f work word r work' word' = (r ≡ Err f) × (work' ≡ work) × (word' ≡ word)

module _ {S : Type 0} (t : Table S) where
  -- a comparison with a reader of table t where this record stands: at a taken place, the search of the product graph of what stands in its cells
  abbrev pub ComparesAt : Bool → Option Summary → ℕ → List S → List ℕ → List ℕ → List ℕ → Result (Option ℕ) Fault → List ℕ → List ℕ → Type 0
  ComparesAt false found p ss ns work word r work' word' = Refuses (fault.NoPlace p) work word r work' word'
  ComparesAt true None p ss ns work word r work' word' = Refuses (fault.Vacant p) work word r work' word'
  ComparesAt true (Some k) p ss ns work word r work' word' =
      Searched (product k.sets (front ns p k.count) (front ss p k.count) t) work word work' word' r

  -- a comparison of place p that returns r
  abbrev pub Compares : State S → ℕ → List ℕ → List ℕ → Result (Option ℕ) Fault → List ℕ → List ℕ → Type 0
  Compares s p work word r work' word' = ComparesAt (has s p) (record_at s.shelf p) p s.symbols s.numbers work word r work' word'

module _ {S : Type 0} (same : S → S → Bool) (t : Table S) where
  -- the plain shelf's answer, with so many cells of work: `here` says whether there is such a place, k what it has
  abbrev pub CompareEnds : Bool → ℕ → Option (Model S) → ℕ → List ℕ → Result (Option ℕ) Fault → List ℕ → Type 0
  CompareEnds false p k work word r word' = (r ≡ Err (fault.NoPlace p)) × (word' ≡ word)
  CompareEnds true p None work word r word' = (r ≡ Err (fault.Vacant p)) × (word' ≡ word)
  CompareEnds true p (Some m) work word r word' = CompareSays same t m work word r word'
