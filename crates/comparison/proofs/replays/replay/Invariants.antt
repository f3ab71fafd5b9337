use Rattle.std.proofs.Common.{◌≡◌, map, length, take, drop}
use Rattle.shelf.specs.Places.{state}
use Rattle.comparison.specs.Runs.{request, memory, Run}
use Rattle.comparison.proofs.replays.replay.Given as goal

abbrev pub invariant-loop-i : goal.invariant-loop-i
invariant-loop-i g l =
    Run g.S.Symbol.same (memory (state l.initial.shelf l.initial.symbols l.initial.numbers) l.initial.work l.initial.word) (map (request g.R.Reader.table) (take l.i l.calls)) (take l.i l.answers)
    (memory (state l.shelf l.symbols l.numbers) l.work l.word)
    × (length l.answers ≡ length l.initial.answers)
    × (drop (length l.calls) l.answers ≡ drop (length l.calls) l.initial.answers)
