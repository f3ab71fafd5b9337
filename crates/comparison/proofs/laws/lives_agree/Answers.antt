use Rattle.comparison.proofs.Living.{lives_agree}
use Rattle.comparison.proofs.laws.lives_agree.Goals as goal

pub returns : goal.returns
returns g c = lives_agree g.S.Symbol.same g.S.Symbol.laws
