use Rattle.std.proofs.Common.{◌≡◌, drop}
use Rattle.tables.specs.Tables.{takes, ends_from}
use Rattle.readers.proofs.takes.Given as goal

abbrev pub invariant-loop-symbol : goal.invariant-loop-symbol
invariant-loop-symbol g l = let t = g.R.Reader.table l.reader in ends_from t l.state (drop l.symbol-index l.word) ≡ takes t l.word
