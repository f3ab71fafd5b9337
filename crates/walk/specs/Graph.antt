-- Graphs whose edges carry labels, and the words that lead along their edges.
use Rattle.std.specs.Prelude.{◌≡◌, ℕ, ◌^◌, ◌<◌, ◌≤◌, Bool, true, [], ◌∷◌, Some, Option}
use Rattle.walk.specs.Order.{Word, NotAfter}

-- A graph with a start and some wanted nodes. Its nodes are the numbers below `nodes`, its labels the numbers 1 to `labels`.
-- `goes x l` is the node to which the edge of label l from x leads, where x has such an edge.
pub record LabelledGraph : Type 0 where
  pub nodes : ℕ
  pub labels : ℕ
  pub start : ℕ
  pub goes : ℕ → ℕ → Option ℕ
  pub wanted : ℕ → Bool

-- There are at most 2^24 nodes and 64 labels; the start and both ends of each edge are nodes, each edge has a label, and only nodes are wanted.
-- So a number that is not a node has no edge.
pub record Sound (G : LabelledGraph) : Type 0 where
  pub few_nodes : G.nodes ≤ 2 ^ 24
  pub few_labels : G.labels ≤ 64
  pub starts : G.start < G.nodes
  pub leaves : (x l y : ℕ) → G.goes x l ≡ Some y → x < G.nodes
  pub arrives : (x l y : ℕ) → G.goes x l ≡ Some y → y < G.nodes
  pub labelled : (x l y : ℕ) → G.goes x l ≡ Some y → (1 ≤ l) × (l ≤ G.labels)
  pub wants : (x : ℕ) → G.wanted x ≡ true → x < G.nodes

-- the word leads from one node to another: its labels are those of the edges on the way, in their order
pub data Leads (G : LabelledGraph) : ℕ → Word → ℕ → Type 0 where
  stay : {x : ℕ} → Leads G x [] x
  step : {x l y z : ℕ} {w : Word} → G.goes x l ≡ Some y → Leads G y w z → Leads G x (l ∷ w) z

-- some word leads from the start to the node
abbrev pub Reachable : LabelledGraph → ℕ → Type 0
Reachable G x = (w : Word) × Leads G G.start w x

-- the least word of a node: it leads there from the start, and no other word that does comes before it
pub record LeastTo (G : LabelledGraph) (w : Word) (x : ℕ) : Type 0 where
  pub leads : Leads G G.start w x
  pub least : (v : Word) → Leads G G.start v x → NotAfter w v

-- a word that leads from the start to a wanted node
abbrev pub WantedWord : LabelledGraph → Word → Type 0
WantedWord G w = (x : ℕ) × Leads G G.start w x × (G.wanted x ≡ true)

-- the least word that leads to a wanted node: no other word that does comes before it
pub record LeastWanted (G : LabelledGraph) (w : Word) : Type 0 where
  pub is_wanted : WantedWord G w
  pub least : (v : Word) → WantedWord G v → NotAfter w v
