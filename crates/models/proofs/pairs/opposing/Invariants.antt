use Rattle.std.proofs.Common.{ℕ, ◌+◌, ◌<◌, length}
use Rattle.models.specs.Clashes.{Opposes}
use Rattle.models.proofs.pairs.opposing.Given as goal

abbrev pub invariant-loop-y : goal.invariant-loop-y
invariant-loop-y g l = (k : ℕ) → k < l.x + 1 + length l.yielded → Opposes g.S.Symbol.same l.symbols l.set l.x k → ⊥
