use Rattle.models.specs.Clashes.{Shares}
use Rattle.models.proofs.pairs.sharing.Given as goal

abbrev pub invariant-loop-row : goal.invariant-loop-row
invariant-loop-row l = Shares l.set l.first l.rows l.row-index l.x
