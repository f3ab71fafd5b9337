use Rattle.slip.proofs.Once.{once}
use Rattle.slip.proofs.one_slip.Goals as goal

pub returns : goal.returns
returns c = once
