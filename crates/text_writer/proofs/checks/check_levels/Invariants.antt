use Rattle.std.proofs.Common.{◌≡◌, ℕ, ◌<◌, ◌≤◌, get_or, take}
use Rattle.text_writer.specs.Levels.{level}
use Rattle.text_writer.proofs.checks.check_levels.Given as goal

abbrev pub invariant-loop-at : goal.invariant-loop-at
invariant-loop-at l = record {
  depth : l.depth ≡ level 0 (take l.at l.text);
  most : l.depth ≤ 16;
  shallow : (k : ℕ) → k < l.at → get_or l.text k 0 ≡ 40 → level 0 (take k l.text) < 16;
}
