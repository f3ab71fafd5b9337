use Rattle.comparison.proofs.Running.{runs_agree}
use Rattle.comparison.proofs.laws.runs_agree.Goals as goal

pub returns : goal.returns
returns g c = runs_agree g.S.Symbol.same g.S.Symbol.laws
