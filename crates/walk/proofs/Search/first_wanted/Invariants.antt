use Rattle.std.proofs.Common.{◌-◌, ◌≤◌, length}
use Rattle.walk.specs.Searches.{Searching, SameLists}
use Rattle.walk.proofs.Search.first_wanted.Given as goal

abbrev pub invariant-loop-head : goal.invariant-loop-head
invariant-loop-head g l =
    record {
      walked : Searching g.G.Graph.meaning l.self l.head 1;
      within : l.head ≤ l.self.tail;
      same : SameLists l.initial.self l.self;
    }

abbrev pub decreases-loop-head : goal.decreases-loop-head
decreases-loop-head g l = length l.initial.self.links.now - l.head
