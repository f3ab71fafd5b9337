-- The worked cases of names and of cues. Assumes nothing.
use Rattle.std.specs.Prelude.{◌≡◌, codes}
use Rattle.symbols.specs.declared.name_rows.NameRow.{NameRow}
use Rattle.symbols.specs.declared.cue_rows.CueRow.{CueRow}
use Rattle.symbols.specs.NameRows.{row_bytes, name_row, name_same, name_foreign}
use Rattle.symbols.specs.CueRows.{cue_same, cue_foreign, cue_written}
use Rattle.worked.specs.Cases.{Worked}

-- the row of the name a
abbrev pub name_a : NameRow
name_a = name_row (codes "a")

-- the row of the name b
abbrev pub name_b : NameRow
name_b = name_row (codes "b")

-- the row of the name x-t, which is foreign
abbrev pub name_x : NameRow
name_x = name_row (codes "x-t")

-- the worked cases of these names, and the bytes that count in their rows
pub record WorkedNames : Type 0 where
  pub cases : Worked name_same name_foreign name_a name_b name_x
  pub bytes_a : row_bytes name_a ≡ codes "a"
  pub bytes_b : row_bytes name_b ≡ codes "b"
  pub bytes_x : row_bytes name_x ≡ codes "x-t"

-- the row of the cue 90.3c
abbrev pub cue_a : CueRow
cue_a = record { status = 144; datum = 60 }

-- the row of the cue 80.3c
abbrev pub cue_b : CueRow
cue_b = record { status = 128; datum = 60 }

-- the row of the cue b0.66, which is foreign
abbrev pub cue_x : CueRow
cue_x = record { status = 176; datum = 102 }

-- the worked cases of these cues, and how they are written
pub record WorkedCues : Type 0 where
  pub cases : Worked cue_same cue_foreign cue_a cue_b cue_x
  pub written_a : cue_written cue_a ≡ codes "90.3c"
  pub written_b : cue_written cue_b ≡ codes "80.3c"
  pub written_x : cue_written cue_x ≡ codes "b0.66"
