use Rattle.std.proofs.Common.{◌≡◌, ℕ, ◌<◌, ◌≤◌, length, get_or}
use Rattle.models.specs.Machine.{linked}
use Rattle.models.proofs.machine.link.Given as goal

abbrev pub invariant-loop-x : goal.invariant-loop-x
invariant-loop-x l =
    (length l.rows ≡ length l.initial.rows)
    × ((k : ℕ) → k < l.x → get_or l.rows k 0 ≡ linked l.last l.first (get_or l.initial.rows k 0) k)
    × ((k : ℕ) → l.x ≤ k → get_or l.rows k 0 ≡ get_or l.initial.rows k 0)
