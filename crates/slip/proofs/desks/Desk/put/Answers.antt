use Rattle.std.proofs.Common.{Ok}
use Rattle.slip.proofs.Calling.{of_load, load_done, puts}
use Rattle.slip.proofs.desks.Desk.put.Goals as goal

pub returns : goal.returns
returns c = λ ms h n.
    let l = of_load _ _ _ _ _ _ (c.loading.ensures _) c.make.ensures.did in
    puts _ _ ms _ _ _ _ h n (c.loading.ensures _) c.make.ensures (Ok tt) (load_done _ _ l c.in_ok-make.was)
