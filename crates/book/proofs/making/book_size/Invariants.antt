use Rattle.std.proofs.Common.{◌≡◌, ◌+◌, ◌*◌, ◌≤◌, length, take}
use Rattle.book.specs.Books.{together}
use Rattle.book.specs.Makings.{contents}
use Rattle.book.proofs.making.book_size.Given as goal

abbrev pub invariant-loop-body : goal.invariant-loop-body
invariant-loop-body l = (l.size ≡ 1 + 4 * length l.bodies + length (together (take l.body-index (contents l.bodies)))) × (l.size ≤ 16384)
