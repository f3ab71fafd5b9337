-- What every call keeps, whatever the cells of its place hold. Assumes nothing.
use Rattle.std.specs.Prelude.{◌≡◌, ℕ, ◌+◌, ◌*◌, ◌<◌, ◌≤◌, Bool, true, false, List, ◌++◌, length, take, drop, Ok, Err, Some, None, Option}
use Rattle.faults.specs.declared.Layer.TheVariants.{Compare}
use Rattle.faults.specs.declared.Fault.{Fault}
use Rattle.faults.specs.declared.Fault.TheVariants as fault
use Rattle.models.specs.declared.trials.Trial.{Trial}
use Rattle.shelf.specs.declared.records.Summary.{Summary}
use Rattle.shelf.specs.Places.{record_at, has}
use Rattle.shelf.specs.Calls.{Done, Judges, Others}
use Rattle.comparison.specs.Answers.{Reply}
use Rattle.comparison.specs.declared.calls.Answer.TheVariants as answer
use Rattle.comparison.specs.Runs.{Request, loads, withdraws, tries, compares, place_of, answer_of_done, answer_of_trial, answer_of_compare, Memory, Did, Untouched}

-- the list is as long as it was, and every cell outside the stretch of place p is as it was
pub record SameOutside {X : Type 0} (p : ℕ) (old new : List X) : Type 0 where
  pub long : length new ≡ length old
  pub below : take (p * 64) new ≡ take (p * 64) old
  pub above : drop (p * 64 + 64) new ≡ drop (p * 64 + 64) old

-- the answer to a comparison over so many pairs, by the cells of the work list and of the word list: fault 11 where one is too short, the work list first
pub record RoomSays (pairs work word : ℕ) (r : Reply) : Type 0 where
  pub short_work : work < 2 * pairs → r ≡ Err (fault.ShortList Compare (2 * pairs))
  pub short_word : 2 * pairs ≤ work → word < pairs → r ≡ Err (fault.ShortList Compare pairs)
  pub enough : 2 * pairs ≤ work → pairs ≤ word → (c : Option ℕ) × (r ≡ answer_of_compare (Ok c))

module _ {S : Type 0} (same : S → S → Bool) where
  -- The answers that a call may have, by whether its place exists, the record that stands there, and the cells of the work list and of the word list. What the place's cells
  -- hold decides no refusal: a load into an empty place is judged by the model that it brings, and a taken place refuses every load as taken.
  abbrev pub AnswersAt : Bool → Option Summary → ℕ → ℕ → Request S → Reply → Type 0
  AnswersAt false found work word a r = r ≡ Err (fault.NoPlace (place_of a))
  AnswersAt true None work word (loads p m) r = (d : Done) × (r ≡ answer_of_done d) × Judges same m d
  AnswersAt true None work word (withdraws p) r = r ≡ Err (fault.Vacant p)
  AnswersAt true None work word (tries p w) r = r ≡ Err (fault.Vacant p)
  AnswersAt true None work word (compares p t) r = r ≡ Err (fault.Vacant p)
  AnswersAt true (Some k) work word (loads p m) r = r ≡ Err (fault.Taken p)
  AnswersAt true (Some k) work word (withdraws p) r = r ≡ Ok answer.Done
  AnswersAt true (Some k) work word (tries p w) r = (v : Trial) × (r ≡ answer_of_trial (Ok v))
  AnswersAt true (Some k) work word (compares p t) r = RoomSays ((k.count + 1) * (t.states + 1)) work word r

  -- what calls of each kind never write: a load leaves the work list and the word list, a withdrawal all four lists, a trial everything, and a comparison the shelf with its two
  -- lists and all but the beginning of the word list
  abbrev pub Leaves : Request S → Memory S → Memory S → Type 0
  Leaves (loads p m) s u = (u.work ≡ s.work) × (u.word ≡ s.word)
  Leaves (withdraws p) s u = (u.base.symbols ≡ s.base.symbols) × (u.base.numbers ≡ s.base.numbers) × (u.work ≡ s.work) × (u.word ≡ s.word)
  Leaves (tries p w) s u = u ≡ s
  Leaves (compares p t) s u = (u.base ≡ s.base) × (length u.work ≡ length s.work) × ((w : List ℕ) × (u.word ≡ w ++ drop (length w) s.word))

  -- a call from s to u: its answer is one that it may have, no record but that of its place changes, nor a cell outside the stretch of its place, and a refused call changes nothing
  pub record Keeps (s : Memory S) (a : Request S) (r : Reply) (u : Memory S) : Type 0 where
    pub answers : AnswersAt (has s.base (place_of a)) (record_at s.base.shelf (place_of a)) (length s.work) (length s.word) a r
    pub records : Others s.base (place_of a) u.base
    pub symbols : SameOutside (place_of a) s.base.symbols u.base.symbols
    pub numbers : SameOutside (place_of a) s.base.numbers u.base.numbers
    pub leaves : Leaves a s u
    pub refused : (f : Fault) → r ≡ Err f → Untouched same s u

  -- every call does so, from any memory
  abbrev pub SpoiledKeep : Type 0
  SpoiledKeep = (s u : Memory S) (a : Request S) (r : Reply) → Did same s a r u → Keeps s a r u
