use Rattle.std.proofs.Common.{◌≡◌, ℕ, ◌≤◌, List, length, drop}
use Rattle.codes.specs.Tree.{Tree}
use Rattle.codes.specs.Build.{build, build_on}
use Rattle.codes.proofs.check.Given as goal

abbrev pub invariant-loop-i : goal.invariant-loop-i
invariant-loop-i l =
    ((s : List (Tree ℕ)) × (length s ≡ l.tally.parts)
    × (build l.symbols l.codes ≡ build_on l.symbols l.i s l.tally.used (drop l.i l.codes)))
    × (l.tally.parts ≤ l.i)
