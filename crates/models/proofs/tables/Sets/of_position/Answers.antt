use Rattle.models.proofs.Bitsets.{leaf_shows}
use Rattle.models.proofs.tables.Sets.of_position.Goals as goal

pub returns : goal.returns
returns c = leaf_shows c.args.k c.requires
