use Rattle.book.proofs.Theorems.{one_fault}
use Rattle.book.proofs.one_fault.Goals as goal

pub returns : goal.returns
returns c = one_fault
