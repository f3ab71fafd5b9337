use Rattle.std.proofs.Common.{◌≤◌}
use Rattle.book.proofs.Fronts.{Front}
use Rattle.book.proofs.reading.Book.read.Given as goal

abbrev pub invariant-loop-k : goal.invariant-loop-k
invariant-loop-k l = Front l.bytes l.k l.entries l.start × (l.start ≤ 16384)
