-- The theorems on shelves that contracts name. Assumes nothing.
use Rattle.std.specs.Prelude.{◌≡◌, ℕ, Bool, false, ◌↔◌, List, replicate, Some, None, Option, Result}
use Rattle.faults.specs.declared.Fault.{Fault}
use Rattle.language.specs.Words.{Marked}
use Rattle.language.specs.Meaning.{Model, body, Word}
use Rattle.models.specs.declared.trials.Trial.{Trial}
use Rattle.models.specs.Told.{TrialTold}
use Rattle.tables.specs.Tables.{Table, Sound, Alike}
use Rattle.shelf.specs.declared.records.Summary.{Summary}
use Rattle.shelf.specs.Places.{State, record_at, has, Holds, table_of}
use Rattle.shelf.specs.Calls.{Done, TakesJust, states_of, Loads, Withdraws, Tries}

module _ {S : Type 0} (same : S → S → Bool) where
  -- a shelf whose sixteen records are empty holds nothing at any place, whatever the lists
  abbrev pub NewHolds : Type 0
  NewHolds = (s : State S) → s.shelf.records ≡ replicate 16 None → (p : ℕ) → Holds same s p None

  -- the reader of place p, whatever the lists contain: its table is lawful; it takes just the words of what the place holds, with a
  -- state for each position and a start; and where there is no such place it has one state and takes nothing
  pub record PlaceReads (s : State S) (p : ℕ) : Type 0 where
    pub sound : Sound (table_of same s p)
    pub alike : Alike same (table_of same s p)
    pub takes : (k : Option (Model S)) → Holds same s p k → TakesJust same k (table_of same s p)
    pub states : (k : Option (Model S)) → Holds same s p k → (table_of same s p).states ≡ states_of k
    pub missing : has s p ≡ false → ((table_of same s p).states ≡ 1) × TakesJust same None (table_of same s p)

  abbrev pub PlaceReaders : Type 0
  PlaceReaders = (s : State S) (p : ℕ) → PlaceReads s p

  -- two models that no call tells apart: they have the same symbols and the same marked words, and so the same words and trials
  pub record Agree (m n : Model S) : Type 0 where
    pub symbols : m.symbols ≡ n.symbols
    pub marked : (w : List ℕ) → Marked (body m) w ↔ Marked (body n) w
    pub words : (s : List S) → Word same m s ↔ Word same n s
    pub trials : (word : List S) (v : Trial) → TrialTold same m word v ↔ TrialTold same n word v
    pub readers : (t : Table S) → TakesJust same (Some m) t ↔ TakesJust same (Some n) t

  -- both are nothing, or both are models that no call tells apart
  abbrev pub OneOf : Option (Model S) → Option (Model S) → Type 0
  OneOf None None = Unit {0}
  OneOf None (Some n) = ⊥
  OneOf (Some m) None = ⊥
  OneOf (Some m) (Some n) = Agree m n

  -- a place holds at most one content, up to the answers of calls
  abbrev pub OneContent : Type 0
  OneContent = (s : State S) (p : ℕ) (k l : Option (Model S)) → Holds same s p k → Holds same s p l → OneOf k l

  -- the records say the same
  abbrev pub SameRecord : Option Summary → Option Summary → Type 0
  SameRecord None None = Unit {0}
  SameRecord None (Some u) = ⊥
  SameRecord (Some t) None = ⊥
  SameRecord (Some t) (Some u) = (t.count ≡ u.count) × (t.sets ≡ u.sets)

  pub record SameState (t u : State S) : Type 0 where
    pub shelf : (q : ℕ) → SameRecord (record_at t.shelf q) (record_at u.shelf q)
    pub symbols : t.symbols ≡ u.symbols
    pub numbers : t.numbers ≡ u.numbers

  -- each call has one answer, and leaves one state; a trial has one where the place holds something or nothing, not where its cells
  -- are spoiled
  pub record OneAnswer : Type 0 where
    pub loads : (s t u : State S) (p : ℕ) (m : Model S) (r q : Done) → Loads same s p m r t → Loads same s p m q u → (r ≡ q) × SameState t u
    pub withdraws : (s t u : State S) (p : ℕ) (r q : Done) → Withdraws s p r t → Withdraws s p q u → (r ≡ q) × SameState t u
    pub tries : (s : State S) (p : ℕ) (word : List S) (k : Option (Model S)) (r q : Result Trial Fault)
        → Holds same s p k → Tries same s p word r → Tries same s p word q → r ≡ q
