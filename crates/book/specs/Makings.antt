-- What the making of a book writes, and what it refuses. Assumes nothing.
use Rattle.std.specs.Prelude.{◌≡◌, ℕ, ◌<◌, ◌≤◌, ◌⊎◌, List, map, length, take, drop}
use Rattle.std.specs.Borrow.{Bor}
use Rattle.faults.specs.declared.Layer.TheVariants.{Book}
use Rattle.faults.specs.declared.Fault.{Fault}
use Rattle.faults.specs.declared.Fault.TheVariants.{TooLarge, WrongBook, ShortList}
use Rattle.book.specs.Books.{book_of, IsBook}
use Rattle.book.specs.Entries.{bodies_in}

-- what the slices of a list hold
abbrev pub contents : List (Bor (List ℕ)) → List (List ℕ)
contents slices = map (λ s. s.now) slices

-- 1 to 16 bodies
abbrev pub Enough : List (List ℕ) → Type 0
Enough bodies = (1 ≤ length bodies) × (length bodies ≤ 16)

-- the book of the bodies stands first in the list and reads back to them, and all other cells are as before
pub record Made (bodies : List (List ℕ)) (before after : List ℕ) (n : ℕ) : Type 0 where
  pub fits : n ≤ length before
  pub book : IsBook (take n after) bodies
  pub back : bodies_in (take n after) ≡ bodies
  pub rest : drop n after ≡ drop n before
  pub size : n ≡ length (book_of bodies)

-- why the bodies were not made a book in a list of `cells`: no body or over 16, over 16,384 bytes, or too short a list
abbrev pub Unmade : List (List ℕ) → ℕ → Fault → Type 0
Unmade bodies cells f =
    ((Enough bodies → ⊥) × (f ≡ WrongBook 0))
    ⊎ ((Enough bodies × (16384 < length (book_of bodies)) × (f ≡ TooLarge Book 16384))
    ⊎ (Enough bodies × (length (book_of bodies) ≤ 16384) × (cells < length (book_of bodies)) × (f ≡ ShortList Book (length (book_of bodies)))))
