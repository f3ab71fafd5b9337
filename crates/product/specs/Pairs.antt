-- The product graph of a model and a reader. The model is given by its tables: state 0 is its start, and state x its position x. Assumes nothing.
use Rattle.std.specs.Prelude.{ℕ, ◌+◌, ◌*◌, ◌/◌, ◌%◌, cond, not, ◌&&◌, List, Some, None, Option, nat_le}
use Rattle.std.specs.Option.{unwrap_or}
use Rattle.language.specs.Meaning.{symbol_at}
use Rattle.models.specs.declared.tables.Sets.{Sets}
use Rattle.models.specs.Stepping.{positions, can_follow, can_end}
use Rattle.tables.specs.Tables.{Table}
use Rattle.walk.specs.Graph.{LabelledGraph}

module _ {S : Type 0} (t : Table S) where
  -- the reader's state after a symbol, from state y; where the symbol does not lead on, the reader is stuck, which counts as the state past its last
  abbrev pub after : ℕ → Option S → ℕ
  after y None = t.states
  after y (Some a) = unwrap_or (t.goes y a) t.states

  -- a node is a pair: state x of the model beside state y of the reader, which may be stuck
  abbrev pub node : ℕ → ℕ → ℕ
  node x y = x * (t.states + 1) + y

  -- the model's state of a node
  abbrev pub model_state : ℕ → ℕ
  model_state v = v / (t.states + 1)

  -- the reader's state of a node
  abbrev pub reader_state : ℕ → ℕ
  reader_state v = v % (t.states + 1)

-- The product graph: position y leads from a pair to y beside the reader's state after the symbol of y, wherever y may come next in the model.
-- So it leads on where the reader is stuck. The start is state 0 of the model beside the reader's start. Wanted are the pairs in which a word of the model may end and the reader does not.
abbrev pub product : {S : Type 0} → Sets → List ℕ → List S → Table S → LabelledGraph
product s rows xs t =
    record {
      nodes = (positions xs + 1) * (t.states + 1);
      labels = positions xs;
      start = t.start;
      goes = λ v y. cond (can_follow s rows (positions xs) (model_state t v) y) (Some (node t y (after t (reader_state t v) (symbol_at xs y)))) None;
      wanted = λ v. nat_le (model_state t v) (positions xs) && (can_end s (model_state t v) && not (t.ending (reader_state t v)));
    }
