use Rattle.std.proofs.Common.{◌≡◌, ◌<◌, false, get_or, arith, rules}
use Rattle.walk.proofs.Keeps.{tail_room, next_place, traces}
use Rattle.walk.proofs.Minimal.{none_wanted, least_wanted, all_taken, before_taken}
use Rattle.walk.proofs.Search.first_wanted.Goals as goal

pub is_wanted_at-requires : goal.is_wanted_at-requires
is_wanted_at-requires g c = let W = c.loop-head.invariant.walked in omega (arith, tail_room W, W.entries.room)

pub returns-then-is_wanted_at-clause-first : goal.returns-then-is_wanted_at-clause-first
returns-then-is_wanted_at-clause-first g c =
    let i = c.loop-head.invariant in
    let W = i.walked in
    let p = c.loop-head-test.true in
    rw (← i.same.graph_is) (
      omega (arith, tail_room W),
      (
        W.entries.word c.loop-head.head,
        traces W c.loop-head.head p,
        least_wanted W i.within p c.if-is_wanted_at.ensures,
        before_taken W i.within p,
      ),
    )

pub loop-head-smaller : goal.loop-head-smaller
loop-head-smaller g c = let W = c.loop-head.invariant.walked in omega (arith, tail_room W, W.entries.cells, c.loop-head.invariant.same.long_links)

pub loop-head-preserved : goal.loop-head-preserved
loop-head-preserved g c =
    let f = c.expand.ensures in
    let S = g.G.Graph.sound c.expand.new.self.graph.now in
    let G = g.G.Graph.meaning c.expand.new.self.graph.now in
    let p : c.loop-head.head < c.expand.new.self.tail = omega (arith, f.ahead) in
    let b : false ≡ G.wanted (get_or c.expand.new.self.queue.now c.loop-head.head 0) = rw (f.same.graph_is, ← f.at_head) c.if-is_wanted_at.ensures in
    record { walked = next_place S f.walked p b; within = omega arith; same = search rules }

pub returns-clause-first : goal.returns-clause-first
returns-clause-first g c =
    let i = c.loop-head.invariant in
    let p = c.loop-head-test.false in
    rw (← i.same.graph_is) (none_wanted i.walked i.within p, all_taken i.walked i.within p)
