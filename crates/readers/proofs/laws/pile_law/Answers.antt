use Rattle.tables.proofs.Piles.{pile_is}
use Rattle.readers.proofs.laws.pile_law.Goals as goal

pub returns : goal.returns
returns g c = pile_is g.S.Symbol.same g.S.Symbol.foreign g.S.Symbol.laws
