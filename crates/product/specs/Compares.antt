-- What a comparison answers and writes: exactly, by the product graph, and by the words of the model. Assumes nothing.
use Rattle.std.specs.Prelude.{◌≡◌, ℕ, ◌+◌, ◌*◌, ◌<◌, ◌≤◌, Bool, List, ◌++◌, length, drop, Some, None, Option, Ok, Err, Result}
use Rattle.faults.specs.declared.Layer.TheVariants.{Compare}
use Rattle.faults.specs.declared.Fault.{Fault}
use Rattle.faults.specs.declared.Fault.TheVariants.{ShortList}
use Rattle.language.specs.Words.{Marked}
use Rattle.language.specs.Meaning.{Model, body, spelled, Word}
use Rattle.tables.specs.Tables.{Table}
use Rattle.tables.specs.Words.{Takes}
use Rattle.walk.specs.declared.Shortage.{Shortage}
use Rattle.walk.specs.declared.Shortage.TheVariants.{Work, Word as WordCells}
use Rattle.walk.specs.Order.{NotAfter}
use Rattle.walk.specs.Graph.{LabelledGraph}
use Rattle.walk.specs.Answer.{Answer}

-- the fault of a list that is too short: 11, of the compare layer, with the cells needed
abbrev pub fault_of_shortage : Shortage → Fault
fault_of_shortage (Work cells) = ShortList Compare cells
fault_of_shortage (WordCells cells) = ShortList Compare cells

-- what the search of the product graph says of the comparison: the same, with the fault of a list that is too short
abbrev pub verdict : Result (Option ℕ) Shortage → Result (Option ℕ) Fault
verdict (Ok least) = Ok least
verdict (Err s) = Err (fault_of_shortage s)

-- the comparison answers what the search for a least word of the graph does; the lists are as lent and as given back
abbrev pub Searched : LabelledGraph → List ℕ → List ℕ → List ℕ → List ℕ → Result (Option ℕ) Fault → Type 0
Searched G work word work' word' r = (found : Result (Option ℕ) Shortage) × (r ≡ verdict found) × Answer G work word work' word' found

-- a refusal leaves the work list as it was; otherwise its content is free, but not its length
abbrev pub Spent : Result (Option ℕ) Fault → List ℕ → List ℕ → Type 0
Spent (Err f) work work' = work' ≡ work
Spent (Ok c) work work' = length work' ≡ length work

module _ {S : Type 0} (t : Table S) where
  -- how many pairs there are: a state of the model, its start or a position, beside a state of the reader, which may be stuck
  abbrev pub pairs : Model S → ℕ
  pairs m = (length m.symbols + 1) * (t.states + 1)

  -- of the marked words of the model whose symbols the reader does not take, the least: a shorter one comes before a longer one, and of
  -- equally long ones the smaller position at the first difference decides
  pub record LeastAstray (m : Model S) (w : List ℕ) : Type 0 where
    pub marked : Marked (body m) w
    pub astray : Takes t (spelled m.symbols w) → ⊥
    pub least : (v : List ℕ) → Marked (body m) v → (Takes t (spelled m.symbols v) → ⊥) → NotAfter w v

module _ {S : Type 0} (same : S → S → Bool) (t : Table S) where
  -- What is answered for the model m and the table t of a reader, with so many cells of work and the word list before and after:
  -- the work list is too short; it is long enough, and the word list is too short; or both are long enough, and the reader takes every word,
  -- or it does not, and the word list begins with the least word that it does not take
  pub data CompareSays (m : Model S) (work : ℕ) (word : List ℕ) : Result (Option ℕ) Fault → List ℕ → Type 0 where
    little_work : work < 2 * pairs t m → CompareSays m work word (Err (ShortList Compare (2 * pairs t m))) word
    little_word : 2 * pairs t m ≤ work → length word < pairs t m → CompareSays m work word (Err (ShortList Compare (pairs t m))) word
    included : 2 * pairs t m ≤ work → pairs t m ≤ length word → ((s : List S) → Word same m s → Takes t s) → CompareSays m work word (Ok None) word
    missed : {w : List ℕ} → 2 * pairs t m ≤ work → pairs t m ≤ length word → LeastAstray t m w → CompareSays m work word (Ok (Some (length w))) (w ++ drop (length w) word)
