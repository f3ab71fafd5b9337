-- What a book is: how bodies are laid out in bytes. Assumes nothing.
use Rattle.std.specs.Prelude.{◌≡◌, ℕ, ◌+◌, ◌*◌, ◌/◌, ◌%◌, ◌≤◌, List, [], ◌∷◌, ◌++◌, length}
use Rattle.std.specs.List.{flat_map}

-- a number in two bytes, the low one first
abbrev pub two_bytes : ℕ → List ℕ
two_bytes n = n % 256 ∷ n / 256 ∷ []

-- the bodies, one after the other
abbrev pub together : List (List ℕ) → List ℕ
together bodies = flat_map (λ b. b) bodies

-- the entries of bodies of which the first begins at the offset: for each its offset and its length
abbrev pub entries_from : ℕ → List (List ℕ) → List ℕ
entries_from offset [] = []
entries_from offset (b ∷ more) = two_bytes offset ++ (two_bytes (length b) ++ entries_from (offset + length b) more)

-- the count byte, an entry for each body, and the bodies, which begin behind the entries
abbrev pub book_of : List (List ℕ) → List ℕ
book_of bodies = length bodies ∷ (entries_from (1 + 4 * length bodies) bodies ++ together bodies)

-- the bytes are the book of these bodies, 1 to 16 of them, and at most 16,384
pub record IsBook (bytes : List ℕ) (bodies : List (List ℕ)) : Type 0 where
  pub some : 1 ≤ length bodies
  pub most : length bodies ≤ 16
  pub short : length bytes ≤ 16384
  pub made : bytes ≡ book_of bodies
