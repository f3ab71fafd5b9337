use Rattle.slip.specs.Loads.{Refuses}
use Rattle.slip.proofs.Wholes.{printed_refused}
use Rattle.slip.proofs.printing.slip_of.Goals as goal

pub returns-in-Err : goal.returns-in-Err
returns-in-Err c =
    let refuses : Refuses c.args.bytes.now c.into.result = rw c.into.ensures c.in-Err.ensures in
    printed_refused c.args.bytes.now c.into.result (λ s. s.text.items) (λ s. s.whole) c.refused.result refuses c.refused.ensures
