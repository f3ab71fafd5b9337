use Rattle.std.proofs.Common.{refl, arith, rules}
use Rattle.walk.proofs.Traces.{traced_short}
use Rattle.walk.proofs.least_word.Goals as goal

pub returns-in_default : goal.returns-in_default
returns-in_default g c =
    let f = rw c.new-search.ensures.same.graph_is at c.in_default.ensures.first in
    record {
      room_work = omega (arith, c.nodes-nodes.ensures);
      room_word = omega (arith, c.nodes-nodes.ensures);
      none = f.0;
      order = f.1;
      same_length = search rules;
      same_word = refl;
    }

pub spell-requires-clause-room : goal.spell-requires-clause-room
spell-requires-clause-room g c =
    let f = rw c.new-search.ensures.same.graph_is at c.in-Some.ensures.first in
    let t = f.1.1 in
    omega (arith, f.0, traced_short t, c.depth-length.ensures f.1.0 t, c.nodes-nodes.ensures, c.if-word-nodes.false)
