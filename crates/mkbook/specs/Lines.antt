-- The lines of an input. Assumes nothing.
use Rattle.std.specs.Prelude.{ℕ, ◌-◌, cond, List, [], ◌∷◌, ◌++◌, length, take, ◌==◌, slice_index}

-- a line without the byte 13 that ends it
abbrev pub without_return : List ℕ → List ℕ
without_return line = cond (slice_index line (length line - 1) == 13) (take (length line - 1) line) line

-- the lines of what is left of the input, of which the first has begun: a byte 10 ends a line, and an empty last line is none
abbrev pub lines_after : List ℕ → List ℕ → List (List ℕ)
lines_after begun [] = cond (length (without_return begun) == 0) [] (without_return begun ∷ [])
lines_after begun (b ∷ more) = cond (b == 10) (without_return begun ∷ lines_after [] more) (lines_after (begun ++ b ∷ []) more)

abbrev pub lines_of : List ℕ → List (List ℕ)
lines_of input = lines_after [] input
