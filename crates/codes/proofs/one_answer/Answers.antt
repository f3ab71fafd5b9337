use Rattle.codes.proofs.Answered.{one_answer}
use Rattle.codes.proofs.one_answer.Goals as goal

pub returns : goal.returns
returns c = one_answer
