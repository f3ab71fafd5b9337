use Rattle.product.proofs.Answered.{one}
use Rattle.product.proofs.one_comparison.Goals as goal

pub returns : goal.returns
returns g c = one g.S.Symbol.same g.S.Symbol.laws
