use Rattle.models.proofs.Answered.{one_answer}
use Rattle.models.proofs.one_answer.Goals as goal

pub returns : goal.returns
returns g c = one_answer g.S.Symbol.same
