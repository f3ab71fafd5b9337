-- Why bytes are no name, and two bytes no cue. Assumes nothing.
use Rattle.std.specs.Prelude.{◌≡◌, ℕ, ◌<◌, ◌≤◌, true, false, ◌⊎◌, List, length, slice_index}
use Rattle.faults.specs.declared.Fault.{Fault}
use Rattle.faults.specs.declared.Fault.TheVariants.{LongName, Unexpected, WrongCue}
use Rattle.symbols.specs.Rule.{allowed}

-- each byte may stand where it does
abbrev pub AllRight : List ℕ → Type 0
AllRight text = (k : ℕ) → k < length text → allowed k (slice_index text k) ≡ true

-- the first byte that may not stand where it does
pub record WrongAt (text : List ℕ) (at : ℕ) : Type 0 where
  pub inside : at < length text
  pub before : (k : ℕ) → k < at → allowed k (slice_index text k) ≡ true
  pub here : allowed at (slice_index text at) ≡ false

-- the fault of bytes that are no name: over 32 of them, none at all, or the first wrong one
abbrev pub NotName : List ℕ → Fault → Type 0
NotName text f =
    ((32 < length text) × (f ≡ LongName 0))
    ⊎ (((length text ≡ 0) × (f ≡ Unexpected 0)) ⊎ ((length text ≤ 32) × ((at : ℕ) × (f ≡ Unexpected at) × WrongAt text at)))

-- the fault of two bytes that are no cue: the status is judged first
abbrev pub NotCue : ℕ → ℕ → Fault → Type 0
NotCue status datum f =
    (((status < 128) ⊎ (239 < status)) × (f ≡ WrongCue 0))
    ⊎ ((128 ≤ status) × (status ≤ 239) × (127 < datum) × (f ≡ WrongCue 1))
