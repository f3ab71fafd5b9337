-- Written forms. Assumes nothing.
use Rattle.std.specs.Prelude.{ℕ, ◌≤◌, List, length, take}
use Rattle.symbols.specs.declared.forms.Form.{Form}

-- a written form has 1 to 32 bytes
pub record Sized (text : List ℕ) : Type 0 where
  pub some : 1 ≤ length text
  pub most : length text ≤ 32

-- the bytes of a form
abbrev pub form_bytes : Form → List ℕ
form_bytes f = take f.len f.bytes
