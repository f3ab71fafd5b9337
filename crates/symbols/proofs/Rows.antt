-- The row of a name's bytes has those bytes. Assumes nothing.
use Rattle.std.proofs.Common.{◌≡◌, ℕ, ◌≤◌, List, length, arith}
use Rattle.std.proofs.lemmas.Grind.{common_steps}
use Rattle.symbols.specs.NameRows.{row_bytes, name_row}

pub row_of_name : (n : List ℕ) → 1 ≤ length n → length n ≤ 32 → row_bytes (name_row n) ≡ n
row_of_name n one most = grind (arith, common_steps)
