-- What the entries of a list of bytes say, which entry is the first wrong one, and the theorems of reading. Assumes nothing.
use Rattle.std.specs.Prelude.{◌≡◌, ℕ, zero, suc, ◌+◌, ◌*◌, ◌<◌, ◌≤◌, ◌⊎◌, List, map, length, take, drop, ◌≢◌, slice_index}
use Rattle.std.specs.List.{range_with_len}
use Rattle.faults.specs.declared.Layer.TheVariants.{Book}
use Rattle.faults.specs.declared.Fault.{Fault}
use Rattle.faults.specs.declared.Fault.TheVariants.{TooLarge, WrongBook}
use Rattle.book.specs.Books.{IsBook}

-- the count byte, 0 where there is none
abbrev pub count_in : List ℕ → ℕ
count_in bytes = slice_index bytes 0

-- byte i of entry k
abbrev pub entry_byte : List ℕ → ℕ → ℕ → ℕ
entry_byte bytes k i = slice_index bytes (1 + 4 * k + i)

-- the offset that entry k gives
abbrev pub offset_in : List ℕ → ℕ → ℕ
offset_in bytes k = entry_byte bytes k 0 + 256 * entry_byte bytes k 1

-- the length that entry k gives
abbrev pub length_in : List ℕ → ℕ → ℕ
length_in bytes k = entry_byte bytes k 2 + 256 * entry_byte bytes k 3

-- where body k has to begin: behind the entries and the bodies before it
abbrev pub start_in : List ℕ → ℕ → ℕ
start_in bytes zero = 1 + 4 * count_in bytes
start_in bytes (suc k) = start_in bytes k + length_in bytes k

-- body k as its entry gives it
abbrev pub body_in : List ℕ → ℕ → List ℕ
body_in bytes k = take (length_in bytes k) (drop (offset_in bytes k) bytes)

-- entry k is one of those counted, its four bytes are there, and the body that it gives lies within the bytes
abbrev pub Holds : List ℕ → ℕ → Type 0
Holds bytes k = (k < count_in bytes) × (1 + 4 * k + 4 ≤ length bytes) × (offset_in bytes k + length_in bytes k ≤ length bytes)

-- the bodies as the entries give them
abbrev pub bodies_in : List ℕ → List (List ℕ)
bodies_in bytes = map (body_in bytes) (range_with_len 0 (count_in bytes))

-- entry k is right: its four bytes are there, its body begins where it has to, and ends within the book
pub record Right (bytes : List ℕ) (k : ℕ) : Type 0 where
  pub there : 1 + 4 * k + 4 ≤ length bytes
  pub placed : offset_in bytes k ≡ start_in bytes k
  pub within : start_in bytes k + length_in bytes k ≤ length bytes

-- entry k is cut, or misplaced, or its body is cut
abbrev pub Wrong : List ℕ → ℕ → Type 0
Wrong bytes k =
    (length bytes < 1 + 4 * k + 4)
    ⊎ ((offset_in bytes k ≢ start_in bytes k) ⊎ (length bytes < start_in bytes k + length_in bytes k))

-- entry k is the first wrong one
pub record FirstWrong (bytes : List ℕ) (k : ℕ) : Type 0 where
  pub inside : k < count_in bytes
  pub before : (j : ℕ) → j < k → Right bytes j
  pub here : Wrong bytes k

-- each entry is right, and bytes are left over behind the last body
pub record LeftOver (bytes : List ℕ) : Type 0 where
  pub all : (j : ℕ) → j < count_in bytes → Right bytes j
  pub over : start_in bytes (count_in bytes) < length bytes

-- the count byte is 1 to 16
abbrev pub Counted : List ℕ → Type 0
Counted bytes = (1 ≤ count_in bytes) × (count_in bytes ≤ 16)

-- why bytes of no more than 16,384 are no book, and the entry that is named: a bad or missing count, the first wrong entry, or bytes left over
abbrev pub NoBook : List ℕ → ℕ → Type 0
NoBook bytes entry =
    ((Counted bytes → ⊥) × (entry ≡ 0))
    ⊎ ((Counted bytes × FirstWrong bytes entry) ⊎ (Counted bytes × LeftOver bytes × (entry ≡ count_in bytes)))

-- the fault of bytes that are no book
abbrev pub Refused : List ℕ → Fault → Type 0
Refused bytes f =
    ((16384 < length bytes) × (f ≡ TooLarge Book 16384))
    ⊎ ((length bytes ≤ 16384) × ((entry : ℕ) × (f ≡ WrongBook entry) × NoBook bytes entry))

-- a refusal means that the bytes are the book of no bodies
abbrev pub RefusalsStand : Type 0
RefusalsStand = (bytes : List ℕ) (f : Fault) (bodies : List (List ℕ)) → Refused bytes f → IsBook bytes bodies → ⊥

-- bytes have one fault at most
abbrev pub OneFault : Type 0
OneFault = (bytes : List ℕ) (f g : Fault) → Refused bytes f → Refused bytes g → f ≡ g

-- a book's bodies are those that its entries give, and so the only ones
abbrev pub BodiesStand : Type 0
BodiesStand = (bytes : List ℕ) (bodies : List (List ℕ)) → IsBook bytes bodies → bodies ≡ bodies_in bytes
