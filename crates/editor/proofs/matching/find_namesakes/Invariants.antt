use Rattle.editor.specs.Tabled.{names_of}
use Rattle.editor.proofs.Marking.{MarkedTo}
use Rattle.editor.proofs.matching.find_namesakes.Given as goal

abbrev pub invariant-loop-k : goal.invariant-loop-k
invariant-loop-k l = MarkedTo l.k l.positions l.name (names_of l.model)
