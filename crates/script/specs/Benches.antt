-- What the calls on a bench may change. Assumes nothing.
use Rattle.symbols.specs.declared.cue_rows.CueRow.{CueRow}
use Rattle.shelf.specs.Places.{state}
use Rattle.comparison.specs.Runs.{Memory, memory}
use Rattle.script.specs.declared.bench.Bench.{Bench}

-- the shelf of a bench with its lists
abbrev pub memory_of : Bench → Memory CueRow
memory_of b = memory (state b.shelf b.symbols.items b.numbers.items) b.work.items b.word.items
