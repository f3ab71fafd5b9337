use Rattle.verdicts.proofs.Meanings.{one_meaning}
use Rattle.verdicts.proofs.one_meaning.Goals as goal

pub returns : goal.returns
returns c = one_meaning
