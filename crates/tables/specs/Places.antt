-- The table of a reader by places. Assumes nothing.
use Rattle.std.specs.Prelude.{ℕ, ◌+◌, ◌-◌, ◌/◌, ◌%◌, ◌^◌, min, Bool, cond, ◌&&◌, List, [], ◌∷◌, length, take, Some, None, Option, ◌==◌, nat_le, slice_index}
use Rattle.tables.specs.Tables.{Table}

-- whether the bit k is set in the row
abbrev pub bit : ℕ → ℕ → Bool
bit row k = (row / 2 ^ k) % 2 == 1

-- the first place from i on, counted from 1, whose bit is set and whose symbol is the same as a
abbrev pub sought : {S : Type 0} → (S → S → Bool) → ℕ → S → ℕ → List S → Option ℕ
sought same row a i [] = None
sought same row a i (s ∷ ss) = cond (bit row i && same s a) (Some (i + 1)) (sought same row a (i + 1) ss)

-- the row of a state, of n places: the bits of the places to which symbols lead from there. From the start it is `first`
abbrev pub row_of : ℕ → List ℕ → ℕ → ℕ → ℕ
row_of first rows n x = cond (x == 0) first (cond (nat_le x n) (slice_index rows (x - 1)) 0)

-- whether a state is an ending, of n places: the start by `nullable`, and place x by bit x - 1 of `last`
abbrev pub ending_of : Bool → ℕ → ℕ → ℕ → Bool
ending_of nullable last n x = cond (x == 0) nullable (nat_le x n && bit last (x - 1))

-- the table of at most 64 places: state 0 is the start, and state x is the place x, counted from 1; a symbol leads to the least place that the state's row has and whose symbol is the same
abbrev pub place_table : {S : Type 0} → (S → S → Bool) → List S → List ℕ → ℕ → ℕ → Bool → Table S
place_table same symbols rows first last nullable = record {
  states = min 64 (length symbols) + 1;
  start = 0;
  ending = ending_of nullable last (min 64 (length symbols));
  goes = λ x a. sought same (row_of first rows (min 64 (length symbols)) x) a 0 (take 64 symbols);
}
