-- The main promise. Assumes nothing.
use Rattle.std.proofs.Common.{◌≡◌, ℕ, Bool, ◌↔◌, List, Some, None, Ok, Err, Option, refl, arith}
use Rattle.faults.specs.declared.Fault.{Fault}
use Rattle.faults.specs.declared.Fault.TheVariants.{Ambiguous}
use Rattle.symbols.specs.Kinds.{KindLaws}
use Rattle.codes.proofs.Answered.{not_refused}
use Rattle.language.specs.Meaning.{Model, Formed, Competes}
use Rattle.models.specs.Told.{Flawed, refused, ambiguous}
use Rattle.tables.proofs.Limits.{held_is}
use Rattle.tables.proofs.Piles.{skip_is, limit_is, pile_is}
use Rattle.tables.proofs.PlaceLaws.{place_sound, place_alike}
use Rattle.product.specs.Compares.{little_work, little_word, included, missed}
use Rattle.product.proofs.Answered.{exactly}
use Rattle.shelf.specs.declared.records.Summary.{Summary}
use Rattle.shelf.specs.Places.{record_at, cells_of, HoldsAt}
use Rattle.shelf.specs.Calls.{Done}
use Rattle.shelf.specs.Theorems.{PlaceReaders}
use Rattle.shelf.proofs.Refining.{ok_err, reader_takes, reader_states, missing_reads}
use Rattle.shelf.proofs.Contents.{one_content}
use Rattle.comparison.specs.Promise.{FormedOf, AmbiguousExactly, MissedLeast, Promise}
use Rattle.comparison.proofs.Running.{runs_agree}
use Rattle.comparison.proofs.Answered.{one_says, one_life}

module _ {S : Type 0} (same : S → S → Bool) where
  holds_formed : (found : Option Summary) (ss : List S) (ns : List ℕ) (q : ℕ) (k : Option (Model S)) → HoldsAt same found ss ns q k → FormedOf k
  holds_formed found ss ns q None h = tt
  holds_formed None ss ns q (Some m) h = absurd h
  holds_formed (Some c) ss ns q (Some m) h = h.1.tables.formed

  flawed_exactly : (m : Model S) (f : Fault) → Formed m → Flawed same m f → ((x : ℕ) × (y : ℕ) × (◌≡◌ {A = Done} (Err f) (Err (Ambiguous x y)))) ↔ ((x : ℕ) × (y : ℕ) × Competes same m x y)
  flawed_exactly m f w (refused h) = absurd (not_refused _ _ f w h)
  flawed_exactly m f w (ambiguous {x} {y} v l) = ((λ q. (x, y, l.compete)), (λ c. (x, y, refl)))

  ambiguous_exactly : AmbiguousExactly same
  ambiguous_exactly p m (Ok u) w j = ((λ q. absurd (ok_err u (Ambiguous q.0 q.1) q.2)), (λ c. absurd (j.1 c.0 c.1 c.2)))
  ambiguous_exactly p m (Err f) w j = flawed_exactly m f w j

  missed_least : MissedLeast same
  missed_least t m work word word' r h k (little_work i) n = absurd (omega (arith, h, i))
  missed_least t m work word word' r h k (little_word i j) n = absurd (omega (arith, k, j))
  missed_least t m work word word' r h k (included i j f) n = absurd (n refl)
  missed_least t m work word word' r h k (missed {w = w} i j l) n = (w, l, refl, refl)

module _ {S : Type 0} (same : S → S → Bool) {foreign : S → Bool} (laws : KindLaws same foreign) where
  place_reads : PlaceReaders same
  place_reads s p =
      let c = cells_of s p in
      record {
        sound = place_sound same c.symbols c.followers c.sets.first c.sets.last c.sets.nullable;
        alike = place_alike same c.symbols c.followers c.sets.first c.sets.last c.sets.nullable laws;
        takes = reader_takes same laws s p c refl;
        states = reader_states same s p c refl;
        missing = missing_reads same s p;
      }

  pub promise : Promise same foreign
  promise = record {
    runs = runs_agree same laws;
    one = one_says same laws;
    once = one_life same laws;
    formed = λ s plain h q. holds_formed same (record_at s.base.shelf q) s.base.symbols s.base.numbers q (plain q) (h q);
    ambiguous = ambiguous_exactly same;
    included = exactly same laws;
    missed = missed_least same;
    place = place_reads;
    content = one_content same laws;
    skip = skip_is same foreign laws;
    limit = limit_is same foreign laws;
    held = held_is;
    pile = pile_is same foreign laws;
  }
