use Rattle.book.proofs.Theorems.{bodies_stand}
use Rattle.book.proofs.bodies_stand.Goals as goal

pub returns : goal.returns
returns c = bodies_stand
