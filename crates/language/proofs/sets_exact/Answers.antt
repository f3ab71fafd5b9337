use Rattle.language.proofs.Told.{sets_exact}
use Rattle.language.proofs.sets_exact.Goals as goal

pub returns : goal.returns
returns c = sets_exact
