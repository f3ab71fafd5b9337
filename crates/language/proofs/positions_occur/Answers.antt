use Rattle.language.proofs.Told.{positions_occur}
use Rattle.language.proofs.positions_occur.Goals as goal

pub returns : goal.returns
returns c = positions_occur
