-- Numbers as sets of positions. Assumes nothing.
use Rattle.std.specs.Prelude.{◌≡◌, ℕ, ◌+◌, ◌/◌, ◌%◌, ◌^◌, Bool, ◌==◌}

-- bit k of a is set
abbrev pub Bit : ℕ → ℕ → Type 0
Bit a k = a / 2 ^ k % 2 ≡ 1

-- whether bit k of a is set
abbrev pub bit : ℕ → ℕ → Bool
bit a k = a / 2 ^ k % 2 == 1

-- bit k of a is set exactly where P holds of position k + 1
abbrev pub ShowsSet : ℕ → (ℕ → Type 0) → Type 0
ShowsSet a P = (k : ℕ) → (Bit a k → P (k + 1)) × (P (k + 1) → Bit a k)
