use Rattle.codes.proofs.Shapes.{same_tree, same_shape}
use Rattle.codes.proofs.one_tree.Goals as goal

pub returns : goal.returns
returns g c = record { one_shape = same_shape; one_tree = same_tree }
