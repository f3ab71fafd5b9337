use Rattle.language.proofs.Told.{parting}
use Rattle.language.proofs.parting.Goals as goal

pub returns : goal.returns
returns c = parting
