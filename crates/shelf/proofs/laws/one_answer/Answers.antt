use Rattle.shelf.proofs.Answered.{one_call}
use Rattle.shelf.proofs.laws.one_answer.Goals as goal

pub returns : goal.returns
returns g c = one_call g.S.Symbol.same
