-- What each call answers and does, whatever the lists contain; and that this is what a plain shelf of optional models answers and does.
-- Assumes nothing.
use Rattle.std.specs.Prelude.{◌≡◌, ℕ, ◌+◌, ◌*◌, Bool, true, false, cond, ◌↔◌, List, length, Some, None, Ok, Err, Option, Result, ◌==◌, ◌≢◌, is_some}
use Rattle.faults.specs.declared.Fault.{Fault}
use Rattle.faults.specs.declared.Fault.TheVariants as fault
use Rattle.language.specs.Meaning.{Model, Formed, Unambiguous, Word}
use Rattle.models.specs.declared.trials.Trial.{Trial}
use Rattle.models.specs.TablesOf.{TablesOf}
use Rattle.models.specs.Told.{Flawed, TrialTold}
use Rattle.tables.specs.Tables.{Table}
use Rattle.tables.specs.Words.{Takes}
use Rattle.shelf.specs.declared.records.Summary.{Summary}
use Rattle.shelf.specs.Places.{State, front, placed, record_at, has, Kept, Holds}

abbrev pub Done : Type 0
Done = Result (Unit {0}) Fault

module _ {S : Type 0} (same : S → S → Bool) where
  -- how a load into an existing empty place ends
  abbrev pub Judges : Model S → Done → Type 0
  Judges m (Ok u) = Formed m × Unambiguous same m
  Judges m (Err f) = Flawed same m f

  -- the answers of the plain shelf: `here` says whether there is such a place, `full` whether it is taken, k what it has
  abbrev pub LoadEnds : Bool → Bool → ℕ → Model S → Done → Type 0
  LoadEnds false full p m r = r ≡ Err (fault.NoPlace p)
  LoadEnds true true p m r = r ≡ Err (fault.Taken p)
  LoadEnds true false p m r = Judges m r

  abbrev pub TrialEnds : Bool → ℕ → Option (Model S) → List S → Result Trial Fault → Type 0
  TrialEnds false p k word r = r ≡ Err (fault.NoPlace p)
  TrialEnds true p None word r = r ≡ Err (fault.Vacant p)
  TrialEnds true p (Some m) word (Ok v) = TrialTold same m word v
  TrialEnds true p (Some m) word (Err f) = ⊥

  -- the words of what a place holds
  abbrev pub WordOf : Option (Model S) → List S → Type 0
  WordOf None word = ⊥
  WordOf (Some m) word = Word same m word

  -- a table takes just the words of what a place holds
  abbrev pub TakesJust : Option (Model S) → Table S → Type 0
  TakesJust k t = (word : List S) → Takes t word ↔ WordOf k word

-- where the cells of a taken place begin and what is kept of it, and else why calls there are refused
abbrev pub taken_at : Bool → Option Summary → ℕ → Result (ℕ × Summary) Fault
taken_at false found p = Err (fault.NoPlace p)
taken_at true None p = Err (fault.Vacant p)
taken_at true (Some t) p = Ok (p * 64, t)

abbrev pub withdraw_ends : Bool → Bool → ℕ → Done
withdraw_ends here full p = cond here (cond full (Ok tt) (Err (fault.Vacant p))) (Err (fault.NoPlace p))

module _ {S : Type 0} where
  -- how many states the reader of what a place holds has
  abbrev pub states_of : Option (Model S) → ℕ
  states_of None = 1
  states_of (Some m) = length m.symbols + 1

  -- the plain content of the named place afterwards
  abbrev pub after_load : Done → Model S → Option (Model S) → Option (Model S)
  after_load (Ok u) m k = Some m
  after_load (Err f) m k = k

  abbrev pub after_withdraw : Done → Option (Model S) → Option (Model S)
  after_withdraw (Ok u) k = None
  after_withdraw (Err f) k = k

  -- every record but that of place p is as it was
  abbrev pub Others : State S → ℕ → State S → Type 0
  Others s p t = (q : ℕ) → (q ≢ p) → record_at t.shelf q ≡ record_at s.shelf q

  pub record Unchanged (s t : State S) : Type 0 where
    pub shelf : t.shelf.records ≡ s.shelf.records
    pub symbols : t.symbols ≡ s.symbols
    pub numbers : t.numbers ≡ s.numbers

  -- place p is empty, and nothing else has changed
  pub record Freed (s : State S) (p : ℕ) (t : State S) : Type 0 where
    pub here : record_at t.shelf p ≡ None
    pub others : Others s p t
    pub symbols : t.symbols ≡ s.symbols
    pub numbers : t.numbers ≡ s.numbers

  abbrev pub WithdrawWrites : State S → ℕ → Done → State S → Type 0
  WithdrawWrites s p (Ok u) t = Freed s p t
  WithdrawWrites s p (Err f) t = Unchanged s t

  -- a withdrawal at place p, from s to t, that returns r
  pub record Withdraws (s : State S) (p : ℕ) (r : Done) (t : State S) : Type 0 where
    pub ends : r ≡ withdraw_ends (has s p) (is_some (record_at s.shelf p)) p
    pub writes : WithdrawWrites s p r t

module _ {S : Type 0} (same : S → S → Bool) where
  -- the symbols of the model m and its followers stand first in the cells of place p, its record is the model's, and nothing else
  -- has changed
  pub record Put (s : State S) (p : ℕ) (m : Model S) (t : State S) : Type 0 where
    pub kept : Summary
    pub followers : List ℕ
    pub even : length followers ≡ length m.symbols
    pub tells : Kept same kept m.symbols followers m
    pub here : record_at t.shelf p ≡ Some kept
    pub others : Others s p t
    pub symbols : t.symbols ≡ placed s.symbols p m.symbols
    pub numbers : t.numbers ≡ placed s.numbers p followers

  abbrev pub LoadWrites : State S → ℕ → Model S → Done → State S → Type 0
  LoadWrites s p m (Ok u) t = Put s p m t
  LoadWrites s p m (Err f) t = Unchanged s t

  -- a load at place p, from s to t, that returns r
  pub record Loads (s : State S) (p : ℕ) (m : Model S) (r : Done) (t : State S) : Type 0 where
    pub ends : LoadEnds same (has s p) (is_some (record_at s.shelf p)) p m r
    pub writes : LoadWrites s p m r t

  -- a trial where this record stands: at a taken place it is done, and true of each model whose tables stand there
  abbrev pub TriesAt : Bool → Option Summary → ℕ → List S → List ℕ → List S → Result Trial Fault → Type 0
  TriesAt false found p ss ns word r = r ≡ Err (fault.NoPlace p)
  TriesAt true None p ss ns word r = r ≡ Err (fault.Vacant p)
  TriesAt true (Some t) p ss ns word (Ok v) =
      (m : Model S) → TablesOf same t.sets (front ns p t.count) (front ss p t.count) m → TrialTold same m word v
  TriesAt true (Some t) p ss ns word (Err f) = ⊥

  -- a trial of a word at place p that returns r
  abbrev pub Tries : State S → ℕ → List S → Result Trial Fault → Type 0
  Tries s p word r = TriesAt (has s p) (record_at s.shelf p) p s.symbols s.numbers word r

  -- a call at place p is the plain shelf's: for each content that a place holds, it holds afterwards what the plain shelf has there,
  -- and where place p holds k, the answer is the plain one; the lists keep their lengths
  pub record Refines (s : State S) (p : ℕ) (after : Option (Model S) → Option (Model S)) (Reply : Option (Model S) → Type 0) (t : State S) : Type 0 where
    pub content : (q : ℕ) (k : Option (Model S)) → Holds same s q k → Holds same t q (cond (q == p) (after k) k)
    pub reply : (k : Option (Model S)) → Holds same s p k → Reply k
    pub symbols : length t.symbols ≡ length s.symbols
    pub numbers : length t.numbers ≡ length s.numbers
