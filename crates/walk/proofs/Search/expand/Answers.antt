use Rattle.std.proofs.Common.{◌≡◌, ◌+◌, arith}
use Rattle.walk.proofs.Search.expand.Goals as goal

pub returns-clause-walked : goal.returns-clause-walked
returns-clause-walked g c =
    let k = rw (← c.loop-label.invariant.same.graph_is) at c.labels-last.ensures in
    let e : (g.G.Graph.meaning c.loop-label.self.graph.now).labels + 1 ≡ c.loop-label.label = omega (arith, k) in
    rw e c.loop-label.invariant.walked

pub returns-2-clause-walked : goal.returns-2-clause-walked
returns-2-clause-walked g c =
    let k = rw (← c.loop-label.invariant.same.graph_is, ← c.follow.ensures.same.graph_is) at c.labels-last.ensures in
    let e : (g.G.Graph.meaning c.follow.new.self.graph.now).labels + 1 ≡ c.loop-label.label + 1 = omega (arith, k) in
    rw e c.follow.ensures.walked
