-- The tables of a model: whether a word may be empty, what may begin and end a word, and what may follow each position.
-- Assumes nothing.
use Rattle.std.specs.Prelude.{◌≡◌, ℕ, ◌+◌, ◌^◌, ◌<◌, Bool, List, [], ◌++◌, length, take, drop, Decides, slice_index}
use Rattle.language.specs.Words.{Expr, Marked, Begins, Ends, Follows}
use Rattle.language.specs.Meaning.{Model, body, Formed, Unambiguous}
use Rattle.models.specs.declared.tables.Sets.{Sets}
use Rattle.models.specs.Bitsets.{ShowsSet}

-- s and the first n rows are the sets of the tree e, which has n symbols: bit y - 1 of a set stands for position y, row x - 1
-- has the followers of position x, and no set has a bit past n
pub record SetsOf (s : Sets) (rows : List ℕ) (n : ℕ) (e : Expr) : Type 0 where
  pub null : Decides s.nullable (Marked e [])
  pub begin : ShowsSet s.first (Begins e)
  pub end : ShowsSet s.last (Ends e)
  pub follow : (x : ℕ) → x < n → ShowsSet (slice_index rows x) (Follows e (x + 1))
  pub first_within : s.first < 2 ^ n
  pub last_within : s.last < 2 ^ n
  pub row_within : (x : ℕ) → x < n → slice_index rows x < 2 ^ n

-- s are the sets of the tree e, and its n rows have been written over the beginning of a list, as far as that goes
pub record Made (s : Sets) (n : ℕ) (e : Expr) (old new : List ℕ) : Type 0 where
  pub rows : List ℕ
  pub even : length rows ≡ n
  pub sets : SetsOf s rows n e
  pub after : new ≡ take (length old) rows ++ drop n old

-- s, the rows and the symbols xs are the tables of the model m, which is well-formed and not ambiguous
pub record TablesOf {S : Type 0} (same : S → S → Bool) (s : Sets) (rows : List ℕ) (xs : List S) (m : Model S) : Type 0 where
  pub formed : Formed m
  pub clear : Unambiguous same m
  pub symbols : xs ≡ m.symbols
  pub sets : SetsOf s rows (length m.symbols) (body m)
