use Rattle.std.proofs.Common.{◌+◌, length, ap, arith}
use Rattle.book.specs.Books.{together}
use Rattle.book.specs.Makings.{contents}
use Rattle.book.proofs.Laid.{length-book}
use Rattle.book.proofs.Written.{length-contents, length_together_more, together_most, contents_all}
use Rattle.book.proofs.making.book_size.Goals as goal

pub returns-then-body-size : goal.returns-then-body-size
returns-then-body-size c =
    let bodies = c.args.bodies.now in
    let i = c.loop-body.body-index in
    omega (arith, length-book (contents bodies), length-contents bodies, length_together_more bodies i c.loop-body-test.true, together_most (contents bodies) (i + 1), c.loop-body.invariant.0, c.if-body-size.true)

pub loop-body-preserved : goal.loop-body-preserved
loop-body-preserved c =
    let more = length_together_more c.args.bodies.now c.loop-body.body-index c.loop-body-test.true in
    (omega (arith, c.loop-body.invariant.0), omega (arith, c.loop-body.invariant.1, c.if-body-size.false))

pub returns : goal.returns
returns c =
    let bodies = c.args.bodies.now in
    let all = ap (λ w. length (together w)) (contents_all bodies c.loop-body.body-index c.loop-body-test.false) in
    (omega (arith, length-book (contents bodies), length-contents bodies, c.loop-body.invariant.0), c.loop-body.invariant.1)
