use Rattle.product.proofs.Answered.{exactly}
use Rattle.product.proofs.included_exactly.Goals as goal

pub returns : goal.returns
returns g c = exactly g.S.Symbol.same g.S.Symbol.laws
