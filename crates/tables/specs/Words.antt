-- The words that a table takes. Assumes nothing.
use Rattle.std.specs.Prelude.{◌≡◌, ℕ, true, List, [], ◌∷◌, Some}
use Rattle.tables.specs.Tables.{Table}

-- the symbols of a word lead, one after the other, from a state to a state
pub data Leads {S : Type 0} (t : Table S) : ℕ → List S → ℕ → Type 0 where
  stays : {x : ℕ} → Leads t x [] x
  steps : {x y z : ℕ} {a : S} {w : List S} → t.goes x a ≡ Some y → Leads t y w z → Leads t x (a ∷ w) z

-- a table takes a word: its symbols lead from the start to an ending
abbrev pub Takes : {S : Type 0} → Table S → List S → Type 0
Takes t w = (z : ℕ) × Leads t t.start w z × (t.ending z ≡ true)
