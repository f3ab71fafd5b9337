-- The main promise, whole. Assumes nothing.
use Rattle.std.specs.Prelude.{◌≡◌, ℕ, ◌*◌, ◌≤◌, Bool, true, false, ◌↔◌, List, ◌++◌, length, drop, Some, None, Ok, Err, Option, Result, ◌≢◌}
use Rattle.faults.specs.declared.Fault.{Fault}
use Rattle.faults.specs.declared.Fault.TheVariants.{Ambiguous}
use Rattle.language.specs.Meaning.{Model, Formed, Competes}
use Rattle.tables.specs.Tables.{Table}
use Rattle.tables.specs.Laws.{SkipLaw, LimitLaw, HeldLaw, PileLaw}
use Rattle.product.specs.Compares.{LeastAstray, pairs, CompareSays}
use Rattle.product.specs.Theorems.{IncludedExactly}
use Rattle.shelf.specs.Calls.{Done, LoadEnds}
use Rattle.shelf.specs.Theorems.{PlaceReaders, OneContent}
use Rattle.comparison.specs.Answers.{Reply}
use Rattle.comparison.specs.Runs.{Request, Memory, Plain, Says, Lives, Matches, RunsAgree}

module _ {S : Type 0} where
  -- nothing, or a well-formed model
  abbrev pub FormedOf : Option (Model S) → Type 0
  FormedOf None = Unit {0}
  FormedOf (Some m) = Formed m

  -- a plain shelf that has well-formed models only, as a bare one does
  abbrev pub AllFormed : Plain S → Type 0
  AllFormed plain = (q : ℕ) → FormedOf (plain q)

module _ {S : Type 0} (same : S → S → Bool) where
  -- the plain shelf has one answer to each call, and one content of the word list after it
  abbrev pub OneAnswer : Type 0
  OneAnswer =
      (places : ℕ → Bool) (work : ℕ) (a : Request S) (k : Option (Model S)) → FormedOf k → (word word₁ word₂ : List ℕ) (r₁ r₂ : Reply)
      → Says same places work a k word r₁ word₁ → Says same places work a k word r₂ word₂ → (r₁ ≡ r₂) × (word₁ ≡ word₂)

  -- and to each list of calls one list of answers, one content of the word list and one content of its places after them
  abbrev pub OneLife : Type 0
  OneLife =
      (places : ℕ → Bool) (work : ℕ) (plain plain₁ plain₂ : Plain S) → AllFormed plain → (word word₁ word₂ : List ℕ) (asks : List (Request S)) (rs₁ rs₂ : List Reply)
      → Lives same places work plain word asks rs₁ plain₁ word₁ → Lives same places work plain word asks rs₂ plain₂ word₂ → (rs₁ ≡ rs₂) × (plain₁ ≡ plain₂) × (word₁ ≡ word₂)

  -- a load of a well-formed model into an existing empty place is refused as ambiguous exactly when positions compete
  abbrev pub AmbiguousExactly : Type 0
  AmbiguousExactly =
      (p : ℕ) (m : Model S) (r : Done) → Formed m → LoadEnds same true false p m r
      → ((x : ℕ) × (y : ℕ) × (r ≡ Err (Ambiguous x y))) ↔ ((x : ℕ) × (y : ℕ) × Competes same m x y)

  -- with room in both lists, a comparison that does not say `Ok None` gives length and positions of the least word of the model that the reader doesn't take
  abbrev pub MissedLeast : Type 0
  MissedLeast =
      (t : Table S) (m : Model S) (work : ℕ) (word word' : List ℕ) (r : Result (Option ℕ) Fault)
      → 2 * pairs t m ≤ work → pairs t m ≤ length word → CompareSays same t m work word r word' → (r ≢ Ok None)
      → (w : List ℕ) × LeastAstray t m w × (r ≡ Ok (Some (length w))) × (word' ≡ w ++ drop (length w) word)

module _ {S : Type 0} (same : S → S → Bool) (foreign : S → Bool) where
  pub record Promise : Type 0 where
    -- after every list of calls, done or refused, each place holds what the plain shelf has there, and every answer and the word list are the plain shelf's
    pub runs : RunsAgree same
    -- the plain shelf has one answer and one word list for each call, and so for each list of calls; its models are well-formed where it matches a shelf
    pub one : OneAnswer same
    pub once : OneLife same
    pub formed : (s : Memory S) (plain : Plain S) → Matches same s plain → AllFormed plain
    -- a load is refused as ambiguous exactly when two marked words share a beginning and go on at different positions of one symbol
    pub ambiguous : AmbiguousExactly same
    -- a comparison says `Ok None` exactly when the reader takes every word of the model, and else gives the least word that it doesn't take
    pub included : IncludedExactly same
    pub missed : MissedLeast same
    -- a place's reader is sound, leads alike by same symbols, and takes just the words of what the place holds, with a state for each position and a start;
    -- and a place holds one content at most, up to the answers of calls
    pub place : PlaceReaders same
    pub content : OneContent same
    -- skip, a limit and any pile of layers take exactly what they should, and keep soundness and sameness; a limit holds what is asked where it fits, and
    -- else the greatest that fits
    pub skip : SkipLaw same foreign
    pub limit : LimitLaw same foreign
    pub held : HeldLaw
    pub pile : PileLaw same foreign
