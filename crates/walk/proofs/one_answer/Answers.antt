use Rattle.walk.proofs.Answers.{one}
use Rattle.walk.proofs.one_answer.Goals as goal

pub returns : goal.returns
returns c = one
