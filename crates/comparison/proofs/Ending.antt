-- A comparison of a place: from the search of the product graph of its cells to what the place holds. Assumes nothing.
use Rattle.std.proofs.Common.{◌≡◌, ℕ, Bool, true, false, List, length, Some, None, Ok, Err, Option, Result, sym, ap, subst}
use Rattle.faults.specs.declared.Fault.{Fault}
use Rattle.faults.specs.declared.Fault.TheVariants as fault
use Rattle.symbols.specs.Kinds.{KindLaws}
use Rattle.language.specs.Meaning.{Model}
use Rattle.tables.specs.Tables.{Table, Sound, Alike}
use Rattle.product.specs.Pairs.{product}
use Rattle.product.specs.Compares.{Spent}
use Rattle.product.proofs.Says.{searched_says, searched_spent}
use Rattle.shelf.specs.declared.records.Summary.{Summary}
use Rattle.shelf.specs.Places.{State, front, record_at, has, HoldsAt}
use Rattle.comparison.specs.Compares.{Refuses, ComparesAt, Compares, CompareEnds}

spent_length : (work work' : List ℕ) (r : Result (Option ℕ) Fault) → Spent r work work' → length work' ≡ length work
spent_length work work' (Ok c) e = e
spent_length work work' (Err f) e = ap length e

-- a refusal leaves the work list
refused_spent : (f : Fault) (work word work' word' : List ℕ) (r : Result (Option ℕ) Fault) → Refuses f work word r work' word' → Spent r work work'
refused_spent f work word work' word' r d = subst (λ x. Spent x work work') (sym d.0) d.1

module _ {S : Type 0} (t : Table S) where
  spent_at : (here : Bool) (found : Option Summary) (p : ℕ) (ss : List S) (ns work word work' word' : List ℕ) (r : Result (Option ℕ) Fault) → ComparesAt t here found p ss ns work word r work' word' → Spent r work work'
  spent_at false found p ss ns work word work' word' r d = refused_spent (fault.NoPlace p) work word work' word' r d
  spent_at true None p ss ns work word work' word' r d = refused_spent (fault.Vacant p) work word work' word' r d
  spent_at true (Some k) p ss ns work word work' word' r d = searched_spent (product k.sets (front ns p k.count) (front ss p k.count) t) work word work' word' r d

  pub compares_length : (s : State S) (p : ℕ) (work word work' word' : List ℕ) (r : Result (Option ℕ) Fault) → Compares t s p work word r work' word' → length work' ≡ length work
  compares_length s p work word work' word' r d = spent_length work work' r (spent_at (has s p) (record_at s.shelf p) p s.symbols s.numbers work word work' word' r d)

module _ {S : Type 0} (same : S → S → Bool) {foreign : S → Bool} (laws : KindLaws same foreign) (t : Table S) (H : Sound t) (A : Alike same t) where
  -- a comparison of a place that holds k is the plain shelf's
  ends_at : (here : Bool) (found : Option Summary) (p : ℕ) (ss : List S) (ns work word work' word' : List ℕ) (r : Result (Option ℕ) Fault) (k : Option (Model S)) → ComparesAt t here found p ss ns work word r work' word'
      → HoldsAt same found ss ns p k → CompareEnds same t here p k (length work) word r word'
  ends_at false found p ss ns work word work' word' r k d h = (d.0, d.2)
  ends_at true None p ss ns work word work' word' r None d h = (d.0, d.2)
  ends_at true None p ss ns work word work' word' r (Some m) d h = absurd h
  ends_at true (Some c) p ss ns work word work' word' r None d h = absurd h
  ends_at true (Some c) p ss ns work word work' word' r (Some m) d h =
      searched_says same laws t H A c.sets (front ns p c.count) (front ss p c.count) m h.1.tables work word work' word' r d

  pub compare_ends : (s : State S) (p : ℕ) (work word work' word' : List ℕ) (r : Result (Option ℕ) Fault) (k : Option (Model S)) → Compares t s p work word r work' word'
      → HoldsAt same (record_at s.shelf p) s.symbols s.numbers p k → CompareEnds same t (has s p) p k (length work) word r word'
  compare_ends s p work word work' word' r k d h = ends_at (has s p) (record_at s.shelf p) p s.symbols s.numbers work word work' word' r k d h
