-- What a code stands for, and its number. Assumes nothing.
use Rattle.std.specs.Prelude.{◌≡◌, ℕ, ◌<◌, Ok, Err, Result}
use Rattle.codes.specs.declared.code.Code.{Code}
use Rattle.codes.specs.declared.code.Code.TheVariants.{Empty, Symbol, Then, Either, Optional, Star, Plus}
use Rattle.codes.specs.declared.code.UnknownCode.{UnknownCode}

-- the number of a code
abbrev pub code_number : Code → ℕ
code_number Empty = 0
code_number Symbol = 1
code_number Then = 2
code_number Either = 3
code_number Optional = 4
code_number Star = 5
code_number Plus = 6

-- the code with this number, or the number itself where it is above 6, and no code's
abbrev pub Decodes : ℕ → Result Code UnknownCode → Type 0
Decodes number (Ok code) = code_number code ≡ number
Decodes number (Err e) = (e.0 ≡ number) × (6 < number)
