use Rattle.std.proofs.Common.{◌≡◌, length, take}
use Rattle.language.specs.Meaning.{spelled}
use Rattle.slip.proofs.telling.spell.Given as goal

abbrev pub invariant-loop-position : goal.invariant-loop-position
invariant-loop-position l = (l.rows.items ≡ spelled l.symbols (take l.position-index l.word)) × (length l.rows.items ≡ l.position-index)
