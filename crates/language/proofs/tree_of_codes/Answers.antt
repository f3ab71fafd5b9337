use Rattle.language.proofs.Told.{tree_of_codes}
use Rattle.language.proofs.tree_of_codes.Goals as goal

pub returns : goal.returns
returns c = tree_of_codes
