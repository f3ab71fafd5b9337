use Rattle.std.proofs.Common.{◌≡◌, ℕ, List, ◌++◌, length, drop, vec_items}
use Rattle.slip.specs.Printed.{Lines}
use Rattle.slip.specs.Desks.{Models, Has}
use Rattle.slip.proofs.printing.lines.Given as goal

abbrev pub invariant-loop-k : goal.invariant-loop-k
invariant-loop-k l = (ms : Models) → Has l.initial.desk ms → length ms ≡ l.count → Has l.desk ms × ((rest : List ℕ) → Lines l.k (drop l.k ms) rest → Lines 0 ms (vec_items l.text ++ rest))
