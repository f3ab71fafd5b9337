use Rattle.std.proofs.Common.{take}
use Rattle.book.specs.Books.{together}
use Rattle.book.specs.Pens.{Writes}
use Rattle.book.specs.Makings.{contents}
use Rattle.book.proofs.making.put_bodies.Given as goal

abbrev pub invariant-loop-body : goal.invariant-loop-body
invariant-loop-body l = Writes l.initial.pen l.pen (together (take l.body-index (contents l.bodies)))
