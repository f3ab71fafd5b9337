use Rattle.editor_text.proofs.Calls.{one_read, one_write}
use Rattle.editor_text.proofs.one_answer.Goals as goal

pub returns : goal.returns
returns c = (one_read, one_write)
