use Rattle.grammar.proofs.Unique.{one_reading}
use Rattle.grammar.proofs.one_reading.Goals as goal

pub returns : goal.returns
returns c = one_reading
