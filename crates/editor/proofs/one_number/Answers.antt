use Rattle.editor.proofs.Numbers.{one_number}
use Rattle.editor.proofs.one_number.Goals as goal

pub returns : goal.returns
returns c = one_number
