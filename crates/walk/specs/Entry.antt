-- The order in which a search takes the nodes: that of their least words.
use Rattle.std.specs.Prelude.{◌≡◌, ℕ, ◌<◌, false, List, length, slice_index}
use Rattle.walk.specs.Order.{Word, Before}
use Rattle.walk.specs.Graph.{LabelledGraph, LeastTo}

-- the node stands on the list
abbrev pub On : List ℕ → ℕ → Type 0
On nodes x = (i : ℕ) × (i < length nodes) × (slice_index nodes i ≡ x)

-- each node of the list has a least word, these words rise along the list, and no node stands on it twice
pub record InOrder (G : LabelledGraph) (nodes : List ℕ) : Type 0 where
  pub least : (i : ℕ) → i < length nodes → (w : Word) × LeastTo G w (slice_index nodes i)
  pub rising : (i j : ℕ) → i < j → j < length nodes → (u v : Word) → LeastTo G u (slice_index nodes i) → LeastTo G v (slice_index nodes j) → Before u v
  pub once : (i j : ℕ) → i < length nodes → j < length nodes → slice_index nodes i ≡ slice_index nodes j → i ≡ j

-- the least word of the node comes before w
abbrev pub ReachedBefore : LabelledGraph → Word → ℕ → Type 0
ReachedBefore G w x = (v : Word) × LeastTo G v x × Before v w

-- the nodes of which P holds, exactly, in the order of their least words; none of them is wanted
pub record Taken (G : LabelledGraph) (P : ℕ → Type 0) : Type 0 where
  pub taken : List ℕ
  pub ordered : InOrder G taken
  pub only : (x : ℕ) → On taken x → P x
  pub every : (x : ℕ) → P x → On taken x
  pub unwanted : (x : ℕ) → On taken x → G.wanted x ≡ false
