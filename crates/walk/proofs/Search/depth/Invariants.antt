use Rattle.std.proofs.Common.{◌≡◌, ◌+◌, length}
use Rattle.walk.specs.Order.{Word}
use Rattle.walk.specs.Searches.{TracedIn}
use Rattle.walk.proofs.Search.depth.Given as goal

abbrev pub invariant-loop-place : goal.invariant-loop-place
invariant-loop-place g l = (v : Word) → TracedIn l.self l.at v → (w : Word) × TracedIn l.self l.place w × (l.count + length w ≡ length v)

abbrev pub decreases-loop-place : goal.decreases-loop-place
decreases-loop-place g l = l.place
