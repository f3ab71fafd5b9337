use Rattle.std.proofs.Common.{length, arith}
use Rattle.book.specs.Makings.{contents}
use Rattle.book.proofs.Laid.{length-book}
use Rattle.book.proofs.Written.{writes_book, length-contents}
use Rattle.book.proofs.making.put_book.Goals as goal

pub put_entries-requires : goal.put_entries-requires
put_entries-requires c =
    let bodies = c.args.bodies.now in
    record {
      room = omega (arith, length-book (contents bodies), length-contents bodies, c.requires.room, c.put.ensures.put.ends, c.put.ensures.put.kept);
      short = c.requires.short;
    }

pub returns : goal.returns
returns c =
    let bodies = c.args.bodies.now in
    writes_book (contents bodies) (length bodies) c.args.pen.now c.put.new.self c.put_entries.new.pen c.put_bodies.new.pen
    (length-contents bodies) c.put.ensures c.put_entries.ensures c.put_bodies.ensures
