use Rattle.verdicts.proofs.Formed.{texts_are_formed}
use Rattle.verdicts.proofs.texts_are_formed.Goals as goal

pub returns : goal.returns
returns c = texts_are_formed
