use Rattle.std.proofs.Common.{◌+◌, take, sym, arith}
use Rattle.book.specs.Books.{together}
use Rattle.book.specs.Makings.{contents}
use Rattle.book.proofs.Written.{writes_writes, writes_same, content, together_more, length_together_more, together_most}
use Rattle.book.proofs.making.put_bodies.Goals as goal

pub put-requires : goal.put-requires
put-requires c =
    let bodies = c.args.bodies.now in
    let i = c.loop-body.body-index in
    omega (arith, c.requires, c.loop-body.invariant.put.ends, c.loop-body.invariant.put.kept, length_together_more bodies i c.loop-body-test.true, together_most (contents bodies) (i + 1))

pub loop-body-preserved : goal.loop-body-preserved
loop-body-preserved c =
    let bodies = c.args.bodies.now in
    let i = c.loop-body.body-index in
    let before = together (take i (contents bodies)) in
    let body = content bodies i c.loop-body-test.true in
    writes_same c.args.pen.now c.put.new.self _ _ (sym (together_more bodies i c.loop-body-test.true))
    (writes_writes c.args.pen.now c.loop-body.pen c.put.new.self before body c.loop-body.invariant c.put.ensures)
