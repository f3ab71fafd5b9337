-- What a desk has once a book is read and the bodies are loaded. Assumes nothing.
use Rattle.std.specs.Prelude.{ℕ, List, Ok, Err, Result}
use Rattle.book.specs.Books.{IsBook}
use Rattle.book.specs.Entries.{bodies_in, Refused}
use Rattle.slip.specs.declared.desks.Desk.{Desk}
use Rattle.slip.specs.declared.refusals.Refusal.{Refusal}
use Rattle.slip.specs.declared.refusals.Refusal.TheVariants.{Book, Body}
use Rattle.slip.specs.Printed.{AllGive, FirstFaulty}
use Rattle.slip.specs.Desks.{Models, Has}

-- the bodies were loaded: the desk has their models, or it is told which is the first that gives none
abbrev pub Loads : List (List ℕ) → Result (Unit {0}) Refusal → Desk → Type 0
Loads bodies (Ok u) d = (ms : Models) × AllGive bodies ms × Has d ms
Loads bodies (Err (Book f)) d = ⊥
Loads bodies (Err (Body k f)) d = FirstFaulty bodies k f

-- what a refusal says of the bytes: that they are no book, or which body is the first that gives no model
abbrev pub Refuses : List ℕ → Refusal → Type 0
Refuses bytes (Book f) = Refused bytes f
Refuses bytes (Body k f) = IsBook bytes (bodies_in bytes) × FirstFaulty (bodies_in bytes) k f
