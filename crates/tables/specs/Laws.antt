-- The laws of the layers, as statements. Assumes nothing.
use Rattle.std.specs.Prelude.{◌≡◌, ℕ, ◌+◌, ◌*◌, ◌<◌, ◌≤◌, Bool, ◌↔◌, List, length}
use Rattle.tables.specs.Tables.{Table, Sound, Alike}
use Rattle.tables.specs.Words.{Takes}
use Rattle.tables.specs.Layers.{own, skip_table, Greatest, greatest, held, limited}
use Rattle.tables.specs.Piles.{Layer, piled, pile_states, PiledTakes}

-- over m states: what is computed is the greatest limit that fits; a limit that fits is held as asked, and else the greatest that fits is held
pub record Held (m asked : ℕ) : Type 0 where
  pub greatest_fits : Greatest m (greatest m)
  pub fitting : m * (asked + 1) ≤ 4096 → held m asked ≡ asked
  pub passing : 4096 < m * (asked + 1) → Greatest m (held m asked)

-- so it is for every limit asked over 1 to 4096 states
abbrev pub HeldLaw : Type 0
HeldLaw = (m asked : ℕ) → 1 ≤ m → m ≤ 4096 → Held m asked

module _ {S : Type 0} (same : S → S → Bool) (foreign : S → Bool) where
  -- what skip over t is: sound, same symbols lead alike where they do so below, and it takes a word exactly when t takes it with the foreign symbols dropped
  pub record Skips (t : Table S) : Type 0 where
    pub sound : Sound (skip_table foreign t)
    pub alike : Alike same t → Alike same (skip_table foreign t)
    pub takes : (w : List S) → Takes (skip_table foreign t) w ↔ Takes t (own foreign w)

  -- so it is over every sound table
  abbrev pub SkipLaw : Type 0
  SkipLaw = (t : Table S) → Sound t → Skips t

  -- what a limit over t is: sound, same symbols lead alike where they do so below, and it takes exactly the words of at most so many symbols as it holds that t takes
  pub record Limits (asked : ℕ) (t : Table S) : Type 0 where
    pub sound : Sound (limited asked t)
    pub alike : Alike same t → Alike same (limited asked t)
    pub takes : (w : List S) → Takes (limited asked t) w ↔ ((length w ≤ held t.states asked) × Takes t w)

  -- so it is for every limit asked, over every sound table
  abbrev pub LimitLaw : Type 0
  LimitLaw = (asked : ℕ) (t : Table S) → Sound t → Limits asked t

  -- what a pile of layers over t is: sound, of so many states, same symbols lead alike where they do so below, and it takes exactly the words that it should
  pub record Piles (layers : List Layer) (t : Table S) : Type 0 where
    pub sound : Sound (piled foreign layers t)
    pub states : (piled foreign layers t).states ≡ pile_states layers t.states
    pub alike : Alike same t → Alike same (piled foreign layers t)
    pub takes : (w : List S) → Takes (piled foreign layers t) w ↔ PiledTakes foreign layers t w

  -- so it is for every pile, over every sound table
  abbrev pub PileLaw : Type 0
  PileLaw = (layers : List Layer) (t : Table S) → Sound t → Piles layers t
