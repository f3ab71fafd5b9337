use Rattle.std.proofs.Common.{◌≡◌, length}
use Rattle.editor.specs.Tabled.{names_of}
use Rattle.editor.proofs.Marking.{FoundTo}
use Rattle.editor.proofs.matching.match_names.Given as goal

abbrev pub invariant-loop-j : goal.invariant-loop-j
invariant-loop-j l = (length l.sets ≡ 64) × FoundTo l.j l.sets (names_of l.first) (names_of l.second)
