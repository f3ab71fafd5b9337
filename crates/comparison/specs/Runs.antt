-- Any list of calls, done or refused, on a shelf with its lists; and a plain shelf of optional models that is given the same calls. Assumes nothing.
use Rattle.std.specs.Prelude.{◌≡◌, ℕ, ◌<◌, Bool, cond, List, [], ◌∷◌, length, take, drop, replicate, is_some, Some, None, Ok, Err, Option, Result, ◌==◌}
use Rattle.faults.specs.declared.Fault.{Fault}
use Rattle.language.specs.Meaning.{Model, given}
use Rattle.models.specs.declared.trials.Trial.{Trial}
use Rattle.tables.specs.Tables.{Table, Sound, Alike}
use Rattle.shelf.specs.declared.shelves.Shelf.{Shelf}
use Rattle.shelf.specs.Places.{State, state, has, Holds}
use Rattle.shelf.specs.Calls.{Done, LoadEnds, TrialEnds, withdraw_ends, Loads, Withdraws, Tries}
use Rattle.comparison.specs.Answers.{Reply, trial_answer, compared_answer}
use Rattle.comparison.specs.declared.calls.Answer.TheVariants as answer
use Rattle.comparison.specs.declared.calls.TooFewAnswers.{TooFewAnswers}
use Rattle.comparison.specs.declared.calls.Call.{Call}
use Rattle.comparison.specs.declared.calls.Call.TheVariants as call
use Rattle.comparison.specs.Compares.{Compares, CompareEnds}

-- what a call asks for; a comparison is with any table
pub data Request (S : Type 0) : Type 0 where
  loads : ℕ → Model S → Request S
  withdraws : ℕ → Request S
  tries : ℕ → List S → Request S
  compares : ℕ → Table S → Request S

-- what a call of the code asks for, where `table` gives the tables of readers
abbrev pub request : {S R : Type 0} → (R → Table S) → Call S R → Request S
request table (call.Load p codes xs) = loads p (given codes.now xs.now)
request table (call.Withdraw p) = withdraws p
request table (call.Trial p word) = tries p word.now
request table (call.Compare p reader) = compares p (table reader.now)

-- the place that is called
abbrev pub place_of : {S : Type 0} → Request S → ℕ
place_of (loads p m) = p
place_of (withdraws p) = p
place_of (tries p word) = p
place_of (compares p t) = p

-- the answers, by what the calls return
abbrev pub answer_of_done : Done → Reply
answer_of_done (Ok u) = Ok answer.Done
answer_of_done (Err f) = Err f

abbrev pub answer_of_trial : Result Trial Fault → Reply
answer_of_trial (Ok v) = Ok (trial_answer v)
answer_of_trial (Err f) = Err f

abbrev pub answer_of_compare : Result (Option ℕ) Fault → Reply
answer_of_compare (Ok c) = Ok (compared_answer c)
answer_of_compare (Err f) = Err f

-- a shelf with the four lists that are lent to its calls: all that a call may change
pub record Memory (S : Type 0) : Type 0 where
  pub base : State S
  pub work : List ℕ
  pub word : List ℕ

-- the four lists
pub record Lists (S : Type 0) : Type 0 where
  pub symbols : List S
  pub numbers : List ℕ
  pub work : List ℕ
  pub word : List ℕ

module _ {S : Type 0} where
  abbrev pub memory : State S → List ℕ → List ℕ → Memory S
  memory s work word = record { base = s; work = work; word = word }

  abbrev pub lists : List S → List ℕ → List ℕ → List ℕ → Lists S
  lists ss ns work word = record { symbols = ss; numbers = ns; work = work; word = word }

  -- a shelf with these lists
  abbrev pub lent : Shelf → Lists S → Memory S
  lent shelf l = memory (state shelf l.symbols l.numbers) l.work l.word

module _ {S : Type 0} (same : S → S → Bool) where
  -- One call: the memory before it, what it asks, the answer, and the memory after it. A comparison is with any sound table in which same symbols lead alike;
  -- what one that is not refused leaves in the work list is free, but not its length.
  pub data Did : Memory S → Request S → Reply → Memory S → Type 0 where
    load : {s t : State S} {work word : List ℕ} {p : ℕ} {m : Model S} (r : Done) → Loads same s p m r t → Did (memory s work word) (loads p m) (answer_of_done r) (memory t work word)
    withdraw : {s t : State S} {work word : List ℕ} {p : ℕ} (r : Done) → Withdraws s p r t → Did (memory s work word) (withdraws p) (answer_of_done r) (memory t work word)
    try : {s : State S} {work word : List ℕ} {p : ℕ} {w : List S} (r : Result Trial Fault) → Tries same s p w r → Did (memory s work word) (tries p w) (answer_of_trial r) (memory s work word)
    compare : {s : State S} {work work' word word' : List ℕ} {p : ℕ} {t : Table S} (r : Result (Option ℕ) Fault) → Sound t → Alike same t → Compares t s p work word r work' word'
        → Did (memory s work word) (compares p t) (answer_of_compare r) (memory s work' word')

  -- calls one after the other
  pub data Run : Memory S → List (Request S) → List Reply → Memory S → Type 0 where
    none : {s : Memory S} → Run s [] [] s
    more : {s t u : Memory S} {a : Request S} {asks : List (Request S)} {r : Reply} {rs : List Reply} → Did s a r t → Run t asks rs u → Run s (a ∷ asks) (r ∷ rs) u

-- a plain shelf: what each place has, nothing or a model
abbrev pub Plain : Type 0 → Type 0
Plain S = ℕ → Option (Model S)

module _ {S : Type 0} where
  -- x where the answer is `Done`, and else k
  abbrev pub when_done : Reply → Option (Model S) → Option (Model S) → Option (Model S)
  when_done (Ok answer.Done) x k = x
  when_done (Ok answer.Yes) x k = k
  when_done (Ok (answer.No n)) x k = k
  when_done (Ok answer.Included) x k = k
  when_done (Ok (answer.Missed n)) x k = k
  when_done (Err f) x k = k

  -- what the called place has after the answer: a load that is done puts its model, a withdrawal that is done takes it away, and nothing else changes anything
  abbrev pub changed : Request S → Reply → Option (Model S) → Option (Model S)
  changed (loads p m) r k = when_done r (Some m) k
  changed (withdraws p) r k = when_done r None k
  changed (tries p word) r k = k
  changed (compares p t) r k = k

  -- the plain shelf after a call with this answer
  abbrev pub step : Request S → Reply → Plain S → Plain S
  step a r plain q = cond (q == place_of a) (changed a r (plain q)) (plain q)

  -- a plain shelf whose places have nothing
  abbrev pub bare : Plain S
  bare q = None

module _ {S : Type 0} (same : S → S → Bool) where
  -- The plain shelf's answer to a call at a place that has k, with the word list before and after it. `places` says which places there are, and
  -- `work` how many cells the work list has.
  abbrev pub Says : (ℕ → Bool) → ℕ → Request S → Option (Model S) → List ℕ → Reply → List ℕ → Type 0
  Says places work (loads p m) k word a word' = (word' ≡ word) × ((r : Done) × (a ≡ answer_of_done r) × LoadEnds same (places p) (is_some k) p m r)
  Says places work (withdraws p) k word a word' = (word' ≡ word) × (a ≡ answer_of_done (withdraw_ends (places p) (is_some k) p))
  Says places work (tries p w) k word a word' = (word' ≡ word) × ((r : Result Trial Fault) × (a ≡ answer_of_trial r) × TrialEnds same (places p) p k w r)
  Says places work (compares p t) k word a word' = (r : Result (Option ℕ) Fault) × (a ≡ answer_of_compare r) × CompareEnds same t (places p) p k work word r word'

  -- the plain shelf over a list of calls: what it has and the word list before them, the calls, the answers, and both after them
  pub data Lives (places : ℕ → Bool) (work : ℕ) : Plain S → List ℕ → List (Request S) → List Reply → Plain S → List ℕ → Type 0 where
    rests : {plain : Plain S} {word : List ℕ} → Lives places work plain word [] [] plain word
    calls : {plain plain' : Plain S} {word word' word'' : List ℕ} {a : Request S} {asks : List (Request S)} {r : Reply} {rs : List Reply}
        → Says places work a (plain (place_of a)) word r word' → Lives places work (step a r plain) word' asks rs plain' word'' → Lives places work plain word (a ∷ asks) (r ∷ rs) plain' word''

  -- each place holds what the plain shelf has there
  abbrev pub Matches : Memory S → Plain S → Type 0
  Matches s plain = (q : ℕ) → Holds same s.base q (plain q)

  -- from s, which matches the plain shelf, to u: the answers and the word list are the plain shelf's, and u matches it as it is then
  pub record Agrees (s : Memory S) (plain : Plain S) (asks : List (Request S)) (rs : List Reply) (u : Memory S) : Type 0 where
    pub after : Plain S
    pub lives : Lives (has s.base) (length s.work) plain s.word asks rs after u.word
    pub holds : Matches u after

  -- every list of calls agrees with the plain shelf
  abbrev pub RunsAgree : Type 0
  RunsAgree = (s u : Memory S) (plain : Plain S) (asks : List (Request S)) (rs : List Reply) → Matches s plain → Run same s asks rs u → Agrees s plain asks rs u

  -- A list of calls was made. The list of answers, old before and new after the calls, has the answers first, and its rest as it was. From any plain shelf that
  -- matches before, all agrees.
  pub record Replayed (s : Memory S) (asks : List (Request S)) (old new : List Reply) (u : Memory S) : Type 0 where
    pub ran : Run same s asks (take (length asks) new) u
    pub rest : drop (length asks) new ≡ drop (length asks) old
    pub agrees : (plain : Plain S) → Matches s plain → Agrees s plain asks (take (length asks) new) u

  -- one call was made, done or refused: what it did; and on a memory that matches a plain shelf the answer and the word list are the plain shelf's, and the memory
  -- afterwards matches it as it is then
  pub record Made (s : Memory S) (ask : Request S) (a : Reply) (u : Memory S) : Type 0 where
    pub did : Did same s ask a u
    pub agrees : (plain : Plain S) → Matches s plain → Says (has s.base) (length s.work) ask (plain (place_of ask)) s.word a u.word × Matches u (step ask a plain)

  -- nothing was written
  pub record Untouched (s u : Memory S) : Type 0 where
    pub shelf : u.base.shelf.records ≡ s.base.shelf.records
    pub symbols : u.base.symbols ≡ s.base.symbols
    pub numbers : u.base.numbers ≡ s.base.numbers
    pub work : u.work ≡ s.work
    pub word : u.word ≡ s.word

  -- what `replay` does, by what it returns
  abbrev pub Replays : Result (Unit {0}) TooFewAnswers → Memory S → List (Request S) → List Reply → List Reply → Memory S → Type 0
  Replays (Ok x) s asks old new u = Replayed s asks old new u
  Replays (Err e) s asks old new u = Untouched s u × (new ≡ old)

  -- the calls were made on a new shelf, and agree with a bare plain shelf
  pub record Started (l : Lists S) (asks : List (Request S)) (old new : List Reply) (u : Memory S) : Type 0 where
    pub fresh : Shelf
    pub empty : fresh.records ≡ replicate 16 None
    pub replayed : Replayed (lent fresh l) asks old new u
    pub agrees : Agrees (lent fresh l) bare asks (take (length asks) new) u

  -- what `replay_new` does with the lists, l before and k after it, by what it returns
  abbrev pub ReplaysNew : Result Shelf TooFewAnswers → Lists S → List (Request S) → List Reply → List Reply → Lists S → Type 0
  ReplaysNew (Err e) l asks old new k = (length old < length asks) × (k ≡ l) × (new ≡ old)
  ReplaysNew (Ok shelf) l asks old new k = Started l asks old new (lent shelf k)
