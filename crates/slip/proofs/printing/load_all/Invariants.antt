use Rattle.std.proofs.Common.{[], take}
use Rattle.book.specs.Entries.{bodies_in}
use Rattle.slip.specs.Printed.{AllGive}
use Rattle.slip.specs.Desks.{Models, Has}
use Rattle.slip.proofs.printing.load_all.Given as goal

abbrev pub invariant-loop-body : goal.invariant-loop-body
invariant-loop-body l = Has l.initial.desk [] → (ms : Models) × AllGive (take l.body-counter (bodies_in l.book.bytes.now)) ms × Has l.desk ms
