-- The rules of names and cues. Assumes nothing.
use Rattle.std.specs.Prelude.{◌≡◌, ℕ, ◌<◌, ◌≤◌, Bool, true, cond, ◌&&◌, ◌||◌, List, length, ◌==◌, nat_le, slice_index}

-- whether b is one of a to e
abbrev pub within : ℕ → ℕ → ℕ → Bool
within a e b = nat_le a b && nat_le b e

-- what a name may begin with: A to Z, a to z, '_' and ':'
abbrev pub start : ℕ → Bool
start b = within 65 90 b || (within 97 122 b || (b == 95 || b == 58))

-- what a name may have only behind its first byte: 0 to 9, '.' and '-'
abbrev pub only : ℕ → Bool
only b = within 48 57 b || (b == 46 || b == 45)

-- what a name may have behind its first byte
abbrev pub inner : ℕ → Bool
inner b = start b || only b

-- whether the byte may stand at the place of a name, counted from 0
abbrev pub allowed : ℕ → ℕ → Bool
allowed at b = cond (at == 0) (start b) (inner b)

-- a name: 1 to 32 bytes, each allowed at its place
abbrev pub IsName : List ℕ → Type 0
IsName text = (1 ≤ length text) × (length text ≤ 32) × ((k : ℕ) → k < length text → allowed k (slice_index text k) ≡ true)

-- a cue: a status of 128 to 239, and a first data byte of 0 to 127
abbrev pub IsCue : ℕ → ℕ → Type 0
IsCue status datum = (128 ≤ status) × (status ≤ 239) × (datum ≤ 127)
