use Rattle.std.proofs.Common.{◌≡◌, ◌++◌, length, vec_items}
use Rattle.book.specs.Makings.{contents}
use Rattle.mkbook.specs.Lines.{lines_of}
use Rattle.mkbook.proofs.input.lines.Given as goal

-- the lines found so far, and those of the rest, are the lines of the input
abbrev pub invariant-loop-end : goal.invariant-loop-end
invariant-loop-end l = contents (vec_items l.lines) ++ lines_of l.rest ≡ lines_of l.input

abbrev pub decreases-loop-end : goal.decreases-loop-end
decreases-loop-end l = length l.rest
