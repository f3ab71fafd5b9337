-- What is printed for the bytes of a book: a line for each model and the next, or one line for the first fault. Assumes nothing.
use Rattle.std.specs.Prelude.{◌≡◌, ℕ, ◌+◌, ◌<◌, Bool, true, false, List, [], ◌∷◌, ◌++◌, length, codes, decimal, slice_index_or, Option, None, Some}
use Rattle.faults.specs.declared.Fault.{Fault}
use Rattle.faults.specs.Shown.{numbered_shown, fault_shown}
use Rattle.symbols.specs.NameRows.{row_bytes, name_same}
use Rattle.symbols.specs.declared.name_rows.NameRow.{NameRow}
use Rattle.language.specs.Meaning.{Model, spelled}
use Rattle.book.specs.Books.{IsBook}
use Rattle.book.specs.Entries.{Refused}
use Rattle.book.specs.Line.{line_of}
use Rattle.verdicts.specs.Texts.{Gives, Faulty}
use Rattle.verdicts.specs.Verdicts.{Included, LeastMissed}

-- each body is a text that gives the model at its place
pub data AllGive : List (List ℕ) → List (Model NameRow) → Type 0 where
  none : AllGive [] []
  more : {b : List ℕ} {bs : List (List ℕ)} {m : Model NameRow} {ms : List (Model NameRow)} → Gives b m → AllGive bs ms → AllGive (b ∷ bs) (m ∷ ms)

-- body k is the first that gives no model, and f is why
pub record FirstFaulty (bodies : List (List ℕ)) (k : ℕ) (f : Fault) : Type 0 where
  pub inside : k < length bodies
  pub before : (j : ℕ) → j < k → (m : Model NameRow) × Gives (slice_index_or bodies j []) m
  pub here : Faulty (slice_index_or bodies k []) f

-- the verdict on the model m against the model n, with the symbols of the least word of m that is none of n, if there is one
pub data Judged (m n : Model NameRow) : Option ℕ → List NameRow → Type 0 where
  included : Included name_same m n → Judged m n None []
  not_included : {l : ℕ} {w : List ℕ} {s : List NameRow} → LeastMissed name_same m n w → l ≡ length w → s ≡ spelled m.symbols w → Judged m n (Some l) s

-- the lines of models of which the first stands at place p: each in the next one
pub data Lines : ℕ → List (Model NameRow) → List ℕ → Type 0 where
  one : {p : ℕ} {m : Model NameRow} → Lines p (m ∷ []) []
  next : {p q : ℕ} {m n : Model NameRow} {ms : List (Model NameRow)} {v : Option ℕ} {s : List NameRow} {rest out : List ℕ}
      → q ≡ p + 1 → Judged m n v s → Lines q (n ∷ ms) rest → out ≡ line_of row_bytes p q v s ++ rest → Lines p (m ∷ (n ∷ ms)) out

-- the line of bytes that are no book
abbrev pub line_of_book : Fault → List ℕ
line_of_book f = codes "book: " ++ (numbered_shown f ++ (10 ∷ []))

-- the line of a body that gives no model
abbrev pub line_of_body : ℕ → Fault → List ℕ
line_of_body k f = codes "body " ++ (decimal k ++ (codes ": " ++ (fault_shown f ++ (10 ∷ []))))

-- what is printed, and whether there is no fault: one line where the bytes are no book, or for the first body that gives no model; and otherwise the lines of all
-- models, which are printed only then
pub data Printed (bytes : List ℕ) : List ℕ → Bool → Type 0 where
  no_book : {f : Fault} {out : List ℕ} → Refused bytes f → out ≡ line_of_book f → Printed bytes out false
  no_model : {bodies : List (List ℕ)} {k : ℕ} {f : Fault} {out : List ℕ} → IsBook bytes bodies → FirstFaulty bodies k f → out ≡ line_of_body k f → Printed bytes out false
  compared : {bodies : List (List ℕ)} {ms : List (Model NameRow)} {out : List ℕ} → IsBook bytes bodies → AllGive bodies ms → Lines 0 ms out → Printed bytes out true
