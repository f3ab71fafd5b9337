-- When two rows of cues are the same cue, which are foreign, and how one is written. Assumes nothing.
use Rattle.std.specs.Prelude.{ℕ, ◌+◌, ◌/◌, ◌%◌, Bool, cond, ◌&&◌, List, [], ◌∷◌, ◌==◌, nat_le, nat_lt}
use Rattle.std.proofs.Common.{arith}
use Rattle.std.proofs.lemmas.Bool.Decides.{nat_tests}
use Rattle.symbols.specs.Kinds.{KindLaws}
use Rattle.symbols.specs.Forms.{Sized}
use Rattle.symbols.specs.declared.cue_rows.CueRow.{CueRow}

-- the statuses divided by 16, fractions dropped, and the data bytes agree
abbrev pub cue_same : CueRow → CueRow → Bool
cue_same a b = a.status / 16 == b.status / 16 && a.datum == b.datum

-- that quotient is 11, and the data byte one of 102 to 119
abbrev pub cue_foreign : CueRow → Bool
cue_foreign a = a.status / 16 == 11 && (nat_le 102 a.datum && nat_le a.datum 119)

pub cue_laws : KindLaws cue_same cue_foreign
cue_laws = record {
  reflexive = λ a. grind (arith, nat_tests);
  symmetric = λ a b s. grind (arith, nat_tests);
  transitive = λ a b c s t. grind (arith, nat_tests);
  alike = λ a b s. grind (arith, nat_tests);
}

-- a lower-case hexadecimal digit
abbrev pub hex_digit : ℕ → ℕ
hex_digit n = cond (nat_lt n 10) (48 + n) (87 + n)

-- both bytes in two digits, with a dot between them
abbrev pub cue_written : CueRow → List ℕ
cue_written c = hex_digit (c.status / 16) ∷ hex_digit (c.status % 16) ∷ 46 ∷ hex_digit (c.datum / 16) ∷ hex_digit (c.datum % 16) ∷ []

pub cue_sized : (c : CueRow) → Sized (cue_written c)
cue_sized c = record { some = omega arith; most = omega arith }
