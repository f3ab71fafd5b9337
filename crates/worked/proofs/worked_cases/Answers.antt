use Rattle.worked.proofs.Joint.{worked}
use Rattle.worked.proofs.worked_cases.Goals as goal

pub returns : goal.returns
returns g c = worked g.S.Symbol.same g.S.Symbol.laws
