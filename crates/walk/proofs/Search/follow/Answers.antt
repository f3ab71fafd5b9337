use Rattle.std.proofs.Common.{sym, ◌∙◌, arith}
use Rattle.walk.proofs.Keeps.{tail_room, skip, enters, push_room}
use Rattle.walk.proofs.Search.follow.Goals as goal

pub offset_bounds-self-head : goal.offset_bounds-self-head
offset_bounds-self-head g c = let W = c.requires.walked in omega (arith, tail_room W, W.entries.room)

pub bounds-self-head : goal.bounds-self-head
bounds-self-head g c = let W = c.requires.walked in omega (arith, tail_room W, W.entries.room)

pub new-requires : goal.new-requires
new-requires g c =
    let S = g.G.Graph.sound c.args.self.now.graph.now in
    (omega (arith, tail_room c.requires.walked, S.few_nodes), omega (arith, S.few_labels, c.requires.named.1))

pub enter-requires : goal.enter-requires
enter-requires g c =
    let S = g.G.Graph.sound c.args.self.now.graph.now in
    let W = c.requires.walked in
    let e = sym c.step.ensures ∙ c.in-Some.is in
    let y = S.arrives _ _ _ e in
    (omega (arith, y, W.entries.cells), λ free. push_room W c.requires.waiting y (omega (arith, S.few_labels, c.requires.named.1)) (omega (arith, c.requires.named.0)) e free)

pub returns-in-Some-clause-walked : goal.returns-in-Some-clause-walked
returns-in-Some-clause-walked g c =
    let S = g.G.Graph.sound c.args.self.now.graph.now in
    let e = sym c.step.ensures ∙ c.in-Some.is in
    let d = rw c.new.ensures at c.enter.ensures.entered in
    rw c.enter.ensures.same.graph_is (enters c.requires.walked c.requires.waiting (S.arrives _ _ _ e) (omega (arith, S.few_labels, c.requires.named.1)) (omega (arith, c.requires.named.0)) e d)

pub returns-in_default-clause-walked : goal.returns-in_default-clause-walked
returns-in_default-clause-walked g c =
    skip c.requires.walked c.requires.waiting (sym c.step.ensures ∙ c.in_default.is)
