use Rattle.std.proofs.Common.{◌≡◌, ◌+◌, ◌≤◌, get_or}
use Rattle.walk.specs.Searches.{Searching, SameLists}
use Rattle.walk.proofs.Search.expand.Given as goal

abbrev pub invariant-loop-label : goal.invariant-loop-label
invariant-loop-label g l =
    record {
      walked : Searching g.G.Graph.meaning l.self l.head l.label;
      ahead : l.initial.self.tail ≤ l.self.tail;
      at_head : get_or l.initial.self.queue.now l.head 0 ≡ get_or l.self.queue.now l.head 0;
      same : SameLists l.initial.self l.self;
      named : l.label ≤ (g.G.Graph.meaning l.self.graph.now).labels + 1;
    }
