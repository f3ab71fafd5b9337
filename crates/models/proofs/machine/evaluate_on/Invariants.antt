use Rattle.std.proofs.Common.{◌≡◌, ◌≤◌, List, length, take, drop}
use Rattle.codes.specs.Build.{build, build_on}
use Rattle.language.specs.Words.{Expr}
use Rattle.models.specs.Machine.{Stack, Rows}
use Rattle.models.proofs.machine.evaluate_on.Given as goal

abbrev pub invariant-loop-i : goal.invariant-loop-i
invariant-loop-i l =
    let n = length l.initial.rows in
    ((s : List Expr) × Stack (take l.machine.depth l.parts) s × Rows l.rows s
    × (build n l.codes ≡ build_on n l.i s l.machine.used (drop l.i l.codes)))
    × (l.machine.depth ≤ l.i) × (l.machine.used ≤ n)
