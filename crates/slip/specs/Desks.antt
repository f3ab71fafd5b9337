-- What a desk has, and what its calls answer. Assumes nothing.
use Rattle.std.specs.Prelude.{◌≡◌, ℕ, ◌<◌, ◌≤◌, List, [], ◌∷◌, ◌++◌, length, take, Some, Ok, Err, slice_index, Option, None}
use Rattle.std.specs.List.{slice_get}
use Rattle.symbols.specs.NameRows.{name_same, row_bytes}
use Rattle.symbols.specs.declared.name_rows.NameRow.{NameRow}
use Rattle.language.specs.Meaning.{Model}
use Rattle.shelf.specs.Places.{state, has}
use Rattle.shelf.specs.Calls.{Done, Judges}
use Rattle.comparison.specs.Answers.{Reply}
use Rattle.comparison.specs.declared.calls.Answer.TheVariants as answer
use Rattle.comparison.specs.Runs.{Request, Memory, Plain, memory, place_of, step, Did, Says, Matches}
use Rattle.book.specs.Line.{line_of}
use Rattle.verdicts.specs.Texts.{Gives, Faulty}
use Rattle.verdicts.specs.Verdicts.{Included, LeastMissed}
use Rattle.slip.specs.declared.desks.Desk.{Desk}
use Rattle.slip.specs.Printed.{Judged}

-- a list of models
abbrev pub Models : Type 0
Models = List (Model NameRow)

-- what the calls on a desk may change
abbrev pub memory_of : Desk → Memory NameRow
memory_of d = memory (state d.shelf d.symbols d.numbers) d.work d.word

-- the lists are long enough for sixteen places, and for each comparison of two of them
pub record Roomy (d : Desk) : Type 0 where
  pub symbols : length d.symbols ≡ 1024
  pub numbers : length d.numbers ≡ 1024
  pub work : length d.work ≡ 8580
  pub word : length d.word ≡ 4290

-- the desk has these models, in the first places of its shelf, and nothing in the others
pub record Has (d : Desk) (ms : Models) : Type 0 where
  pub roomy : Roomy d
  pub holds : Matches name_same (memory_of d) (slice_get ms)

-- what a call says and leaves on a desk that matches the plain shelf
abbrev pub Said : Desk → Request NameRow → Reply → Desk → Plain NameRow → Type 0
Said d ask a e plain = Says name_same (has (memory_of d).base) (length d.work) ask (plain (place_of ask)) d.word a e.word × Matches name_same (memory_of e) (step ask a plain)

-- one call was made on the desk d, which became e
pub record Called (d : Desk) (ask : Request NameRow) (a : Reply) (e : Desk) : Type 0 where
  pub did : Did name_same (memory_of d) ask a (memory_of e)
  pub agrees : (plain : Plain NameRow) → Matches name_same (memory_of d) plain → Said d ask a e plain
  pub roomy : Roomy d → Roomy e

-- the answer is that of a load
abbrev pub OfLoad : Reply → Type 0
OfLoad (Ok answer.Done) = Unit {0}
OfLoad (Ok answer.Yes) = ⊥
OfLoad (Ok (answer.No n)) = ⊥
OfLoad (Ok answer.Included) = ⊥
OfLoad (Ok (answer.Missed n)) = ⊥
OfLoad (Err f) = Unit {0}

-- the answer is that of a comparison that was not refused
abbrev pub OfVerdict : Reply → Type 0
OfVerdict (Ok answer.Done) = ⊥
OfVerdict (Ok answer.Yes) = ⊥
OfVerdict (Ok (answer.No n)) = ⊥
OfVerdict (Ok answer.Included) = Unit {0}
OfVerdict (Ok (answer.Missed n)) = Unit {0}
OfVerdict (Err f) = ⊥

-- the answer that the verdict comes from
abbrev pub answer_of : Option ℕ → Reply
answer_of None = Ok answer.Included
answer_of (Some l) = Ok (answer.Missed l)

-- the models are at the first places, and `place` is the next one
abbrev pub Next : Models → ℕ → Type 0
Next ms place = (length ms ≡ place) × (place < 16)

-- a load of the model m behind the models ms: the desk has it then, or it is told why not
abbrev pub Puts : Models → Model NameRow → Done → Desk → Type 0
Puts ms m (Ok u) e = Judges name_same m (Ok u) × Has e (ms ++ m ∷ [])
Puts ms m (Err f) e = Judges name_same m (Err f)

-- a text was read and its model loaded behind the models ms, or it is told why not
abbrev pub Reads : Models → List ℕ → Done → Desk → Type 0
Reads ms text (Ok u) e = (m : Model NameRow) × Gives text m × Has e (ms ++ m ∷ [])
Reads ms text (Err f) e = Faulty text f

-- both places have a model
abbrev pub Both : Desk → ℕ → ℕ → Type 0
Both d first second = (ms : Models) × Has d ms × (first < length ms) × (second < length ms)

-- the verdict on m against n; the word list begins with the least word that is missed
abbrev pub Found : Model NameRow → Model NameRow → Option ℕ → List ℕ → Type 0
Found m n None word = Included name_same m n
Found m n (Some l) word = (w : List ℕ) × LeastMissed name_same m n w × (l ≡ length w) × (take l word ≡ w)

-- each position of the list is one from 1 to n
abbrev pub InRange : ℕ → List ℕ → Type 0
InRange n w = (k : ℕ) → k < length w → (1 ≤ slice_index w k) × (slice_index w k ≤ n)

-- the word of the verdict is not too long to be told
abbrev pub Short : Option ℕ → Type 0
Short None = Unit {0}
Short (Some l) = l ≤ 4290

-- what the line of two places puts behind a text
abbrev pub Told : Models → ℕ → ℕ → List ℕ → List ℕ → Type 0
Told ms first second before after = (m n : Model NameRow) → slice_get ms first ≡ Some m → slice_get ms second ≡ Some n
    → (v : Option ℕ) × (s : List NameRow) × Judged m n v s × (after ≡ before ++ line_of row_bytes first second v s)
