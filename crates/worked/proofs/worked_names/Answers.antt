use Rattle.std.proofs.Common.{refl}
use Rattle.symbols.specs.NameRows.{name_same, name_laws}
use Rattle.worked.specs.Kinds.{name_a, name_b, name_x}
use Rattle.worked.proofs.Joint.{worked}
use Rattle.worked.proofs.worked_names.Goals as goal

pub returns : goal.returns
returns c = record {
  cases = worked name_same name_laws name_a name_b name_x (record { a_not_b = refl; a_not_x = refl; b_not_x = refl; own_a = refl; own_b = refl; foreign_x = refl });
  bytes_a = refl;
  bytes_b = refl;
  bytes_x = refl;
}
