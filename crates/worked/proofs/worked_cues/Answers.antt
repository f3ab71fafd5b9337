use Rattle.std.proofs.Common.{refl}
use Rattle.symbols.specs.CueRows.{cue_same, cue_laws}
use Rattle.worked.specs.Kinds.{cue_a, cue_b, cue_x}
use Rattle.worked.proofs.Joint.{worked}
use Rattle.worked.proofs.worked_cues.Goals as goal

pub returns : goal.returns
returns c = record {
  cases = worked cue_same cue_laws cue_a cue_b cue_x (record { a_not_b = refl; a_not_x = refl; b_not_x = refl; own_a = refl; own_b = refl; foreign_x = refl });
  written_a = refl;
  written_b = refl;
  written_x = refl;
}
