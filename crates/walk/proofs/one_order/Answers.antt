use Rattle.walk.proofs.Orders.{one}
use Rattle.walk.proofs.one_order.Goals as goal

pub returns : goal.returns
returns c = one
