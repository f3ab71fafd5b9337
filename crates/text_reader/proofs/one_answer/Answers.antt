use Rattle.text_reader.proofs.Final.{one_answer}
use Rattle.text_reader.proofs.one_answer.Goals as goal

pub returns : goal.returns
returns c = one_answer
