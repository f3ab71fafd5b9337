use Rattle.std.proofs.Common.{◌≤◌, length, arith, rules}
use Rattle.std.proofs.lemmas.Grind.{common_steps}
use Rattle.book.specs.Books.{book_of}
use Rattle.book.specs.Makings.{contents}
use Rattle.book.proofs.Written.{made_by, length-contents}
use Rattle.book.proofs.making.make.Goals as goal

pub returns : goal.returns
returns c =
    let bodies = contents c.args.bodies.now in
    let n = length-contents c.args.bodies.now in
    let some : 1 ≤ length c.args.bodies.now = search rules in
    let most : length c.args.bodies.now ≤ 16 = search rules in
    let short : length (book_of bodies) ≤ 16384 = grind (arith, common_steps) in
    made_by bodies c.args.out.now _ c.put_book.new.pen.at (omega arith, omega arith) short (grind (arith, common_steps))
