-- Layers piled in any order over a table. Assumes nothing.
use Rattle.std.specs.Prelude.{ℕ, ◌+◌, ◌*◌, ◌≤◌, Bool, List, [], ◌∷◌, length}
use Rattle.tables.specs.Tables.{Table}
use Rattle.tables.specs.Words.{Takes}
use Rattle.tables.specs.Layers.{own, skip_table, held, limited}

-- a layer: skip, or a limit that asks for so many symbols
pub data Layer : Type 0 where
  skip : Layer
  limit : ℕ → Layer

-- the table under a pile of layers, the outermost first
abbrev pub piled : {S : Type 0} → (S → Bool) → List Layer → Table S → Table S
piled foreign [] t = t
piled foreign (skip ∷ layers) t = skip_table foreign (piled foreign layers t)
piled foreign (limit n ∷ layers) t = limited n (piled foreign layers t)

-- how many states a pile has over m of them: a limit has the states below once for each count from 0 to what it holds
abbrev pub pile_states : List Layer → ℕ → ℕ
pile_states [] m = m
pile_states (skip ∷ layers) m = pile_states layers m
pile_states (limit n ∷ layers) m = pile_states layers m * (held (pile_states layers m) n + 1)

-- the words that a pile should take, from the outermost layer on: skip drops foreign symbols, a limit asks for at most what it holds, and the table below takes what is left
abbrev pub PiledTakes : {S : Type 0} → (S → Bool) → List Layer → Table S → List S → Type 0
PiledTakes foreign [] t w = Takes t w
PiledTakes foreign (skip ∷ layers) t w = PiledTakes foreign layers t (own foreign w)
PiledTakes foreign (limit n ∷ layers) t w = (length w ≤ held (pile_states layers t.states) n) × PiledTakes foreign layers t w
