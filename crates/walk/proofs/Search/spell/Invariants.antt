use Rattle.std.proofs.Common.{◌≡◌, ◌≤◌, ◌++◌, length, drop}
use Rattle.walk.specs.Order.{Word}
use Rattle.walk.specs.Searches.{TracedIn}
use Rattle.walk.proofs.Search.spell.Given as goal

abbrev pub invariant-loop-place : goal.invariant-loop-place
invariant-loop-place g l = (l.left ≤ l.len) × ((v : Word) → TracedIn l.self l.at v → (w : Word) × TracedIn l.self l.place w × (l.left ≡ length w) × (w ++ drop l.left l.word ≡ v ++ drop l.len l.initial.word))

abbrev pub decreases-loop-place : goal.decreases-loop-place
decreases-loop-place g l = l.place
