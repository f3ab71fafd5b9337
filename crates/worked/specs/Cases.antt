-- The worked cases, for three symbols a, b and x. Assumes nothing.
use Rattle.std.specs.Prelude.{◌≡◌, ℕ, ◌*◌, ◌≤◌, Bool, true, false, List, [], ◌∷◌, ◌++◌, length, drop, Some, None, Ok, Err, Result, Option}
use Rattle.std.specs.List.{AllByRecursion}
use Rattle.faults.specs.declared.Fault.{Fault}
use Rattle.faults.specs.declared.Fault.TheVariants.{Ambiguous, ShortList}
use Rattle.faults.specs.declared.Layer.TheVariants.{Compare}
use Rattle.faults.specs.declared.Values.TheVariants.{One}
use Rattle.faults.specs.Card.{number, layer, values}
use Rattle.language.specs.Meaning.{Model, spelled}
use Rattle.models.specs.declared.trials.Trial.{Trial}
use Rattle.models.specs.declared.trials.Trial.TheVariants.{No}
use Rattle.models.specs.Told.{TrialTold}
use Rattle.tables.specs.Tables.{Table, Sound}
use Rattle.tables.specs.Words.{Takes}
use Rattle.tables.specs.Layers.{skip_table, limited}
use Rattle.product.specs.Compares.{pairs, CompareSays}
use Rattle.shelf.specs.Places.{State, has, Holds, table_of}
use Rattle.shelf.specs.Calls.{Done, Judges, Loads, Tries, TakesJust}
use Rattle.worked.specs.Models.{star_a_star, loop_then_b, a_then_star, stars_star, either_star, stars, empty_model, only_a, a_x_b, a_b, a_star, a_maybe_b}

-- no two of the three symbols are the same, and x alone is foreign
pub record Three {S : Type 0} (same : S → S → Bool) (foreign : S → Bool) (a b x : S) : Type 0 where
  pub a_not_b : same a b ≡ false
  pub a_not_x : same a x ≡ false
  pub b_not_x : same b x ≡ false
  pub own_a : foreign a ≡ false
  pub own_b : foreign b ≡ false
  pub foreign_x : foreign x ≡ true

module _ {S : Type 0} (same : S → S → Bool) where
  -- a load of the model m into an empty place ends with r, and with nothing else
  pub record LoadEndsWith (m : Model S) (r : Done) : Type 0 where
    pub judged : Judges same m r
    pub answers : (s t : State S) (p : ℕ) (q : Done) → has s p ≡ true → Holds same s p None → Loads same s p m q t → q ≡ r

  -- a trial of the word at a place that holds the model m answers v, and nothing else
  pub record TrialAnswers (m : Model S) (word : List S) (v : Trial) : Type 0 where
    pub told : TrialTold same m word v
    pub answers : (s : State S) (p : ℕ) (q : Result Trial Fault) → Holds same s p (Some m) → Tries same s p word q → q ≡ Ok v

  -- a comparison of the model m with a reader of table t, with so many cells of work and this word list, answers r and gives back word',
  -- and nothing else
  pub record Answers (t : Table S) (m : Model S) (work : ℕ) (word : List ℕ) (r : Result (Option ℕ) Fault) (word' : List ℕ) : Type 0 where
    pub says : CompareSays same t m work word r word'
    pub only : (q : Result (Option ℕ) Fault) (word'' : List ℕ) → CompareSays same t m work word q word'' → (q ≡ r) × (word'' ≡ word')

  -- where both lists are long enough, the answer is that the reader takes every word of the model
  abbrev pub IsIncluded : Table S → Model S → Type 0
  IsIncluded t m = (work : ℕ) (word : List ℕ) → 2 * pairs t m ≤ work → pairs t m ≤ length word → Answers t m work word (Ok None) word

  -- where both lists are long enough, the answer is the word of the positions w, whose symbols are v
  abbrev pub Finds : Table S → Model S → List ℕ → List S → Type 0
  Finds t m w v =
      (spelled m.symbols w ≡ v)
      × ((work : ℕ) (word : List ℕ) → 2 * pairs t m ≤ work → pairs t m ≤ length word → Answers t m work word (Ok (Some (length w))) (w ++ drop (length w) word))

  -- P holds of the table of each reader that takes just the words of m
  abbrev pub EachReader : Model S → (Table S → Type 0) → Type 0
  EachReader m P = (t : Table S) → Sound t → TakesJust same (Some m) t → P t

  -- the same, of those with two states
  abbrev pub EachOfTwo : Model S → (Table S → Type 0) → Type 0
  EachOfTwo m P = (t : Table S) → Sound t → t.states ≡ 2 → TakesJust same (Some m) t → P t

  -- P holds of the table of the reader of each place that holds m, of any shelf
  abbrev pub EachPlace : Model S → (Table S → Type 0) → Type 0
  EachPlace m P = (s : State S) (p : ℕ) → Holds same s p (Some m) → P (table_of same s p)

module _ {S : Type 0} (same : S → S → Bool) (foreign : S → Bool) (a b x : S) where
  -- the loads and the trial
  pub record WorkedCalls : Type 0 where
    pub star_a_star_refused : LoadEndsWith same (star_a_star a) (Err (Ambiguous 1 2))
    pub loop_then_b_refused : LoadEndsWith same (loop_then_b a b) (Err (Ambiguous 2 3))
    pub a_then_star_loads : LoadEndsWith same (a_then_star a) (Ok tt)
    -- so does each model that is compared or read below, so that a place may hold it
    pub others_load : AllByRecursion (λ m. LoadEndsWith same m (Ok tt))
        (stars_star a b ∷ either_star a b ∷ stars a b ∷ empty_model ∷ only_a a ∷ a_x_b a x b ∷ a_b a b ∷ a_star a ∷ a_maybe_b a b ∷ [])
    pub a_b_b_tried : TrialAnswers same (a_maybe_b a b) (a ∷ b ∷ b ∷ []) (No 2)

  -- the comparisons, and what layers take: For m speaks of readers of the model m, and ForTwo m of such readers with two states
  pub record WorkedReaders (For ForTwo : Model S → (Table S → Type 0) → Type 0) : Type 0 where
    pub stars_star_in_either_star : For (either_star a b) (λ t. IsIncluded same t (stars_star a b))
    pub either_star_in_stars_star : For (stars_star a b) (λ t. IsIncluded same t (either_star a b))
    pub either_star_in_stars : For (stars a b) (λ t. Finds same t (either_star a b) (2 ∷ 1 ∷ []) (b ∷ a ∷ []))
    pub empty_in_a : For (only_a a) (λ t. Finds same t empty_model [] [])
    pub a_x_b_in_a_b : For (a_b a b) (λ t. Finds same t (a_x_b a x b) (1 ∷ 2 ∷ 3 ∷ []) (a ∷ x ∷ b ∷ []))
    pub a_x_b_in_skip : For (a_b a b) (λ t. IsIncluded same (skip_table foreign t) (a_x_b a x b))
    pub a_star_in_limit : ForTwo (a_star a) (λ t. Finds same (limited 2 t) (a_star a) (1 ∷ 1 ∷ 1 ∷ []) (a ∷ a ∷ a ∷ []))
    -- the same comparison with 28 cells of work, and with 27
    pub enough_work : ForTwo (a_star a) (λ t. (word : List ℕ) → 14 ≤ length word → Answers same (limited 2 t) (a_star a) 28 word (Ok (Some 3)) (1 ∷ 1 ∷ 1 ∷ drop 3 word))
    pub little_work : ForTwo (a_star a) (λ t. (word : List ℕ) → Answers same (limited 2 t) (a_star a) 27 word (Err (ShortList Compare 28)) word)
    pub skip_over_limit : ForTwo (only_a a) (λ t. Takes (skip_table foreign (limited 1 t)) (a ∷ x ∷ x ∷ []))
    pub limit_over_skip : For (only_a a) (λ t. Takes (limited 1 (skip_table foreign t)) (a ∷ x ∷ x ∷ []) → ⊥)

  -- all of them: for every reader, and for the reader of every place
  pub record Worked : Type 0 where
    pub calls : WorkedCalls
    pub readers : WorkedReaders (EachReader same) (EachOfTwo same)
    pub places : WorkedReaders (EachPlace same) (EachPlace same)
    -- the fault of the comparison with 27 cells of work: 11, of the layer compare, and it names 28
    pub little_work_number : number (ShortList Compare 28) ≡ 11
    pub little_work_layer : layer (ShortList Compare 28) ≡ Compare
    pub little_work_values : values (ShortList Compare 28) ≡ One 28

-- so it is for any such three symbols of a kind
abbrev pub WorkedCases : {S : Type 0} → (S → S → Bool) → (S → Bool) → Type 0
WorkedCases {S} same foreign = (a b x : S) → Three same foreign a b x → Worked same foreign a b x
