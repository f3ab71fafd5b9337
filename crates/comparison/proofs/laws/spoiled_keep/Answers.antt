use Rattle.comparison.proofs.Kept.{spoiled_keep}
use Rattle.comparison.proofs.laws.spoiled_keep.Goals as goal

pub returns : goal.returns
returns g c = spoiled_keep g.S.Symbol.same
