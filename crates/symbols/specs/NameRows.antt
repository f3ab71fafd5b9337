-- The bytes of a row of a name, and when two rows are the same name. Assumes nothing.
use Rattle.std.specs.Prelude.{ℕ, min, max, Bool, ◌&&◌, List, ◌++◌, length, take, drop, replicate, ◌==◌, nat_le, slice_index}
use Rattle.std.proofs.Common.{arith}
use Rattle.std.specs.Str.{bytes_eq}
use Rattle.std.proofs.lemmas.Slice.Eq.{bytes_eq-Decides}
use Rattle.std.proofs.lemmas.Grind.{common_steps}
use Rattle.symbols.specs.Kinds.{KindLaws}
use Rattle.symbols.specs.Forms.{Sized}
use Rattle.symbols.specs.declared.name_rows.NameRow.{NameRow}

-- the nearest of 1 to 32
abbrev pub width : ℕ → ℕ
width len = max 1 (min 32 len)

-- the bytes that count; a row has 32, so none of the zeros does
abbrev pub row_bytes : NameRow → List ℕ
row_bytes r = take (width r.len) (r.bytes ++ replicate 32 0)

-- the row of a name's bytes: the bytes, then zeros
abbrev pub name_row : List ℕ → NameRow
name_row n = record { bytes = n ++ drop (length n) (replicate 32 0); len = length n }

-- two rows are the same when their bytes are
abbrev pub name_same : NameRow → NameRow → Bool
name_same a b = bytes_eq (row_bytes a) (row_bytes b)

-- the bytes begin with x-
abbrev pub begins_x : List ℕ → Bool
begins_x w = nat_le 2 (length w) && (slice_index w 0 == 120 && slice_index w 1 == 45)

abbrev pub name_foreign : NameRow → Bool
name_foreign a = begins_x (row_bytes a)

pub name_laws : KindLaws name_same name_foreign
name_laws = record {
  reflexive = λ a. grind (arith, bytes_eq-Decides);
  symmetric = λ a b s. grind (arith, bytes_eq-Decides);
  transitive = λ a b c s t. grind (arith, bytes_eq-Decides);
  alike = λ a b s. grind (arith, bytes_eq-Decides);
}

pub name_sized : (r : NameRow) → Sized (row_bytes r)
name_sized r = record { some = grind (arith, common_steps); most = grind (arith, common_steps) }
