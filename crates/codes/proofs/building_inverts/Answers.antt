use Rattle.codes.proofs.Faulty.{building}
use Rattle.codes.proofs.building_inverts.Goals as goal

pub returns : goal.returns
returns c = building
