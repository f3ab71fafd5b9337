use Rattle.std.proofs.Common.{◌≡◌, ◌+◌, ◌*◌, length, take}
use Rattle.book.specs.Books.{together, entries_from}
use Rattle.book.specs.Pens.{Writes}
use Rattle.book.specs.Makings.{contents}
use Rattle.book.proofs.making.put_entries.Given as goal

abbrev pub invariant-loop-body : goal.invariant-loop-body
invariant-loop-body l =
    Writes l.initial.pen l.pen (entries_from (1 + 4 * length l.bodies) (take l.body-index (contents l.bodies)))
    × (l.offset ≡ 1 + 4 * length l.bodies + length (together (take l.body-index (contents l.bodies))))
