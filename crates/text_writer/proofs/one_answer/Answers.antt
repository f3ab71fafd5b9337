use Rattle.text_writer.proofs.Answered.{one_answer}
use Rattle.text_writer.proofs.one_answer.Goals as goal

pub returns : goal.returns
returns c = one_answer
