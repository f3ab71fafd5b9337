use Rattle.std.proofs.Common.{ℕ, ◌<◌}
use Rattle.models.specs.Clashes.{Clash}
use Rattle.models.proofs.pairs.least_pair.Given as goal

abbrev pub invariant-loop-x : goal.invariant-loop-x
invariant-loop-x g l = (u v : ℕ) → u < l.x → Clash g.S.Symbol.same l.symbols l.first l.rows u v → ⊥
