-- The tables of a model as an automaton: state 0 is the start, state x is position x. Assumes nothing.
use Rattle.std.specs.Prelude.{◌≡◌, ℕ, zero, suc, ◌-◌, ◌≤◌, min, Bool, true, cond, ◌&&◌, List, length, Some, None, Option, nat_le, nat_lt, slice_index}
use Rattle.language.specs.Meaning.{like, symbol_at}
use Rattle.models.specs.declared.tables.Sets.{Sets}
use Rattle.models.specs.Bitsets.{Bit, bit}

-- the positions that may come after a state, of n positions: none after a state past n or past the rows
abbrev pub set_after : Sets → List ℕ → ℕ → ℕ → ℕ
set_after s rows n zero = s.first
set_after s rows n (suc x) = cond (nat_lt x n) (slice_index rows x) 0

-- how many positions there are: of more than 64 symbols, only the first 64 count
abbrev pub positions : {S : Type 0} → List S → ℕ
positions xs = min (length xs) 64

-- whether position y may come after state x, of n positions
abbrev pub can_follow : Sets → List ℕ → ℕ → ℕ → ℕ → Bool
can_follow s rows n x y = nat_le 1 y && (nat_le y n && bit (set_after s rows n x) (y - 1))

-- whether a word may end in a state: in none past 64
abbrev pub can_end : Sets → ℕ → Bool
can_end s zero = s.nullable
can_end s (suc x) = nat_lt x 64 && bit s.last x

module _ {S : Type 0} (same : S → S → Bool) (s : Sets) (rows : List ℕ) (xs : List S) where
  -- by the tables, position y may come after state x with the symbol a
  abbrev pub May : ℕ → S → ℕ → Type 0
  May x a y = Bit (set_after s rows (length xs) x) (y - 1) × (like same (symbol_at xs y) a ≡ true)

  -- the least position that may, or none
  abbrev pub Steps : ℕ → S → Option ℕ → Type 0
  Steps x a None = (y : ℕ) → May x a y → ⊥
  Steps x a (Some y) = May x a y × ((z : ℕ) → May x a z → y ≤ z)
