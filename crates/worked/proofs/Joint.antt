-- The worked cases, jointly: what holds of every reader holds of the readers of places.
use Rattle.std.proofs.Common.{◌≡◌, ℕ, Bool, Some, refl}
use Rattle.symbols.specs.Kinds.{KindLaws}
use Rattle.language.specs.Meaning.{Model}
use Rattle.tables.specs.Tables.{Sound}
use Rattle.tables.proofs.PlaceLaws.{place_sound}
use Rattle.shelf.specs.Places.{State, cells_of, Holds, table_of}
use Rattle.shelf.specs.Calls.{states_of, TakesJust}
use Rattle.shelf.proofs.Refining.{reader_takes, reader_states}
use Rattle.worked.specs.Models.{stars_star, either_star, stars, only_a, a_b, a_star}
use Rattle.worked.specs.Cases.{Three, EachPlace, WorkedReaders, WorkedCases}
use Rattle.worked.proofs.Loading.{calls}
use Rattle.worked.proofs.Comparing.{readers}

module _ {S : Type 0} (same : S → S → Bool) {foreign : S → Bool} (laws : KindLaws same foreign) where
  sound_at : (s : State S) (p : ℕ) → Sound (table_of same s p)
  sound_at s p = let d = cells_of s p in place_sound same d.symbols d.followers d.sets.first d.sets.last d.sets.nullable

  takes_at : (s : State S) (p : ℕ) (m : Model S) → Holds same s p (Some m) → TakesJust same (Some m) (table_of same s p)
  takes_at s p m h = reader_takes same laws s p (cells_of s p) refl (Some m) h

  states_at : (s : State S) (p : ℕ) (m : Model S) → Holds same s p (Some m) → (table_of same s p).states ≡ states_of (Some m)
  states_at s p m h = reader_states same s p (cells_of s p) refl (Some m) h

  module _ (a b x : S) (D : Three same foreign a b x) where
    places : WorkedReaders same foreign a b x (EachPlace same) (EachPlace same)
    places =
        let r = readers same laws a b x D in
        record {
          stars_star_in_either_star = λ s p h. r.stars_star_in_either_star (table_of same s p) (sound_at s p) (takes_at s p (either_star a b) h);
          either_star_in_stars_star = λ s p h. r.either_star_in_stars_star (table_of same s p) (sound_at s p) (takes_at s p (stars_star a b) h);
          either_star_in_stars = λ s p h. r.either_star_in_stars (table_of same s p) (sound_at s p) (takes_at s p (stars a b) h);
          empty_in_a = λ s p h. r.empty_in_a (table_of same s p) (sound_at s p) (takes_at s p (only_a a) h);
          a_x_b_in_a_b = λ s p h. r.a_x_b_in_a_b (table_of same s p) (sound_at s p) (takes_at s p (a_b a b) h);
          a_x_b_in_skip = λ s p h. r.a_x_b_in_skip (table_of same s p) (sound_at s p) (takes_at s p (a_b a b) h);
          a_star_in_limit = λ s p h. r.a_star_in_limit (table_of same s p) (sound_at s p) (states_at s p (a_star a) h) (takes_at s p (a_star a) h);
          enough_work = λ s p h. r.enough_work (table_of same s p) (sound_at s p) (states_at s p (a_star a) h) (takes_at s p (a_star a) h);
          little_work = λ s p h. r.little_work (table_of same s p) (sound_at s p) (states_at s p (a_star a) h) (takes_at s p (a_star a) h);
          skip_over_limit = λ s p h. r.skip_over_limit (table_of same s p) (sound_at s p) (states_at s p (only_a a) h) (takes_at s p (only_a a) h);
          limit_over_skip = λ s p h. r.limit_over_skip (table_of same s p) (sound_at s p) (takes_at s p (only_a a) h);
        }

  pub worked : WorkedCases same foreign
  worked a b x D = record {
    calls = calls same laws a b x D;
    readers = readers same laws a b x D;
    places = places a b x D;
    little_work_number = refl;
    little_work_layer = refl;
    little_work_values = refl;
  }
