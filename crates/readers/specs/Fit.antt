-- What a reader answers when it is asked whether a limit over it fits. Assumes nothing.
use Rattle.std.specs.Prelude.{ℕ, ◌+◌, ◌*◌, cond, Ok, Err, Result, nat_le}
use Rattle.faults.specs.declared.Fault.{Fault}
use Rattle.faults.specs.declared.Fault.TheVariants.{Unfit}
use Rattle.tables.specs.Layers.{greatest}

-- a limit n over m states fits where it has at most 4096 states; otherwise fault 12 names the greatest that fits
abbrev pub fit_answer : ℕ → ℕ → Result (Unit {0}) Fault
fit_answer m n = cond (nat_le (m * (n + 1)) 4096) (Ok tt) (Err (Unfit (greatest m)))
