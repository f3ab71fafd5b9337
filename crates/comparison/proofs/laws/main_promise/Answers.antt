use Rattle.comparison.proofs.Promised.{promise}
use Rattle.comparison.proofs.laws.main_promise.Goals as goal

pub returns : goal.returns
returns g c = promise g.S.Symbol.same g.S.Symbol.laws
