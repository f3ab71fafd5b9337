use Rattle.tables.proofs.Piles.{limit_is}
use Rattle.readers.proofs.laws.limit_law.Goals as goal

pub returns : goal.returns
returns g c = limit_is g.S.Symbol.same g.S.Symbol.foreign g.S.Symbol.laws
