use Rattle.tables.proofs.Piles.{skip_is}
use Rattle.readers.proofs.laws.skip_law.Goals as goal

pub returns : goal.returns
returns g c = skip_is g.S.Symbol.same g.S.Symbol.foreign g.S.Symbol.laws
