use Rattle.grammar.proofs.Outcomes.{one_whole}
use Rattle.grammar.proofs.one_outcome.Goals as goal

pub returns : goal.returns
returns c = λ t o o' r r'. one_whole r r'
