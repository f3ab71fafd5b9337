use Rattle.shelf.proofs.Refining.{new_holds}
use Rattle.shelf.proofs.laws.new_shelf.Goals as goal

pub returns : goal.returns
returns g c = new_holds g.S.Symbol.same
