-- What a place of a shelf holds. Assumes nothing.
use Rattle.std.specs.Prelude.{◌≡◌, ℕ, ◌+◌, ◌*◌, Bool, true, false, ◌&&◌, List, [], ◌++◌, length, take, drop, Some, None, Option, nat_le, nat_lt, slice_index_or}
use Rattle.language.specs.Meaning.{Model}
use Rattle.models.specs.declared.tables.Sets.{Sets}
use Rattle.models.specs.Machine.{no_sets}
use Rattle.models.specs.TablesOf.{TablesOf}
use Rattle.tables.specs.Tables.{Table}
use Rattle.tables.specs.Places.{place_table}
use Rattle.shelf.specs.declared.records.Summary.{Summary}
use Rattle.shelf.specs.declared.shelves.Shelf.{Shelf}

-- place p is one of the sixteen, and lists of these lengths have its 64 cells
abbrev pub room : ℕ → ℕ → ℕ → Bool
room symbols numbers p = nat_lt p 16 && (nat_le (p * 64 + 64) symbols && nat_le (p * 64 + 64) numbers)

-- the n first cells of place p
abbrev pub front : {X : Type 0} → List X → ℕ → ℕ → List X
front cells p n = take n (drop (p * 64) cells)

-- the items in the first cells of place p, and every other cell as it was
abbrev pub placed : {X : Type 0} → List X → ℕ → List X → List X
placed cells p items = take (p * 64) cells ++ (items ++ drop (p * 64 + length items) cells)

-- a shelf with the two lists that are lent to its calls
pub record State (S : Type 0) : Type 0 where
  pub shelf : Shelf
  pub symbols : List S
  pub numbers : List ℕ

abbrev pub state : {S : Type 0} → Shelf → List S → List ℕ → State S
state shelf ss ns = record { shelf = shelf; symbols = ss; numbers = ns }

-- the record of place p: empty past the sixteen
abbrev pub record_at : Shelf → ℕ → Option Summary
record_at shelf p = slice_index_or shelf.records p None

-- there is such a place
abbrev pub has : {S : Type 0} → State S → ℕ → Bool
has s p = room (length s.symbols) (length s.numbers) p

-- what the reader of a place reads from: a symbol and the followers for each position, and the sets of the model
pub record Cells (S : Type 0) : Type 0 where
  pub symbols : List S
  pub followers : List ℕ
  pub sets : Sets

module _ {S : Type 0} where
  abbrev pub cells : List S → List ℕ → Sets → Cells S
  cells xs rows sets = record { symbols = xs; followers = rows; sets = sets }

  -- no position where the place is missing or empty
  abbrev pub cells_at : Bool → Option Summary → List S → List ℕ → ℕ → Cells S
  cells_at false found ss ns p = cells [] [] no_sets
  cells_at true None ss ns p = cells [] [] no_sets
  cells_at true (Some t) ss ns p = cells (front ss p t.count) (front ns p t.count) t.sets

  abbrev pub cells_of : State S → ℕ → Cells S
  cells_of s p = cells_at (has s p) (record_at s.shelf p) s.symbols s.numbers p

module _ {S : Type 0} (same : S → S → Bool) where
  -- the record t, the symbols ss and the followers ns are those of the model m
  pub record Kept (t : Summary) (ss : List S) (ns : List ℕ) (m : Model S) : Type 0 where
    pub count : t.count ≡ length m.symbols
    pub tables : TablesOf same t.sets ns ss m

  -- a place with this record in these lists holds k
  abbrev pub HoldsAt : Option Summary → List S → List ℕ → ℕ → Option (Model S) → Type 0
  HoldsAt None ss ns p None = Unit {0}
  HoldsAt None ss ns p (Some m) = ⊥
  HoldsAt (Some t) ss ns p None = ⊥
  HoldsAt (Some t) ss ns p (Some m) = (room (length ss) (length ns) p ≡ true) × Kept t (front ss p t.count) (front ns p t.count) m

  -- place p holds k: nothing, or a model whose symbols and followers stand in the place's cells and whose record is the model's
  abbrev pub Holds : State S → ℕ → Option (Model S) → Type 0
  Holds s p k = HoldsAt (record_at s.shelf p) s.symbols s.numbers p k

  -- the table of a reader of these cells: state 0 is the start, state x is position x
  abbrev pub table_from : Cells S → Table S
  table_from c = place_table same c.symbols c.followers c.sets.first c.sets.last c.sets.nullable

  -- the table of the reader of place p
  abbrev pub table_of : State S → ℕ → Table S
  table_of s p = table_from (cells_of s p)
