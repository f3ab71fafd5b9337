use Rattle.std.proofs.Common.{◌≡◌, ◌++◌, take}
use Rattle.book.specs.Line.{forms_shown}
use Rattle.book.proofs.lines.add_forms.Given as goal

abbrev pub invariant-loop-symbol : goal.invariant-loop-symbol
invariant-loop-symbol g l = l.text.items ≡ l.initial.text.items ++ forms_shown g.P.Printable.written (take l.symbol-index l.symbols)
