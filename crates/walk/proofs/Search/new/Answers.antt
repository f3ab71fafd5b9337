use Rattle.std.proofs.Common.{arith}
use Rattle.walk.proofs.Keeps.{begins}
use Rattle.walk.proofs.Search.new.Goals as goal

pub returns-clause-walked : goal.returns-clause-walked
returns-clause-walked g c =
    let S = g.G.Graph.sound c.args.graph.now in
    let d = rw (c.fill.ensures.after (λ y e. e), c.start.ensures) at c.enter.ensures.entered in
    rw c.enter.ensures.same.graph_is (begins S _ c.requires.0 (omega arith) d)
