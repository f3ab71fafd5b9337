use Rattle.std.proofs.Common.{vec_items, arith}
use Rattle.slip.proofs.Wholes.{lines_more, lines_end}
use Rattle.slip.proofs.printing.lines.Goals as goal

pub loop-k-preserved : goal.loop-k-preserved
loop-k-preserved c = λ ms h l.
    let i = c.loop-k.invariant ms h l in
    let t = c.in_ok-tell.ensures ms i.0 (omega (arith, c.loop-k-test.true)) (omega (arith, c.loop-k-test.true)) in
    (t.0, lines_more ms c.loop-k.k (vec_items c.loop-k.text) (vec_items c.tell.new.text) (omega (arith, c.loop-k-test.true)) t.1 i.1)

pub returns : goal.returns
returns c = λ ms h l. let i = c.loop-k.invariant ms h l in lines_end ms c.loop-k.k (vec_items c.loop-k.text) (omega (arith, c.loop-k-test.false, c.loop-k.auto.k-end, c.requires.3)) i.1
