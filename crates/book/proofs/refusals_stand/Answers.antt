use Rattle.book.proofs.Theorems.{refusals_stand}
use Rattle.book.proofs.refusals_stand.Goals as goal

pub returns : goal.returns
returns c = refusals_stand
