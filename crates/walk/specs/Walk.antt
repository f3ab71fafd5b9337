-- What the two halves of the work list hold during a search.
-- `links` has a cell for each node, 0 where it is not entered yet; `queue` has the nodes in the order in which they were entered.
use Rattle.std.specs.Prelude.{◌≡◌, ℕ, ◌+◌, ◌*◌, ◌/◌, ◌%◌, ◌<◌, ◌≤◌, false, cond, ◌⊎◌, List, [], ◌∷◌, ◌++◌, length, Some, None, Option, ◌==◌, ◌≢◌, slice_index, slice_index_or, slice_set}
use Rattle.walk.specs.Order.{Word, Before, NotAfter}
use Rattle.walk.specs.Graph.{LabelledGraph, Leads, Reachable, WantedWord, LeastWanted}
use Rattle.walk.specs.Entry.{Taken, ReachedBefore}

-- the link of a node: the queue's place of its parent, the node from which it was entered, and the label of the edge
abbrev pub link_of : ℕ → ℕ → ℕ
link_of place label = place * 128 + label

-- the parent's place of a link
abbrev pub parent_of : ℕ → ℕ
parent_of link = link / 128

-- the label of a link
abbrev pub label_of : ℕ → ℕ
label_of link = link % 128

-- the start's link: it has no parent, and no label is that large
abbrev pub start_link : ℕ
start_link = link_of 0 127

-- how many cells are not 0
abbrev pub used : List ℕ → ℕ
used [] = 0
used (x ∷ xs) = cond (x == 0) 0 1 + used xs

-- the word that the links give from the queue's place i back to place 0
pub data Traced (links queue : List ℕ) : ℕ → Word → Type 0 where
  origin : Traced links queue 0 []
  from : {i p l : ℕ} {w : Word} → p < i → i < length queue → slice_index queue i < length links → slice_index links (slice_index queue i) ≡ link_of p l → l < 128
      → Traced links queue p w → Traced links queue i (w ++ l ∷ [])

-- the edge of label k from place i was followed before the search came to label l of place h
abbrev pub Followed : ℕ → ℕ → ℕ → ℕ → Type 0
Followed h l i k = (i < h) ⊎ ((i ≡ h) × (k < l))

-- the node at place i was entered from an earlier place, as its link says, and its word is one label longer than that of its parent
pub record Linked (links queue : List ℕ) (word : ℕ → Word) (i : ℕ) : Type 0 where
  pub place : ℕ
  pub label : ℕ
  pub earlier : place < i
  pub link : slice_index_or links (slice_index queue i) 0 ≡ link_of place label
  pub low : label < 128
  pub longer : word i ≡ word place ++ label ∷ []

-- The queue has `tail` nodes, the first of them the start: each with a word that leads to it from the start, in the order of these words,
-- each once, and each with its link. No other node has a link.
pub record Entries (G : LabelledGraph) (links queue : List ℕ) (tail : ℕ) : Type 0 where
  pub word : ℕ → Word
  pub cells : length links ≡ G.nodes
  pub room : G.nodes ≤ length queue
  pub counted : tail ≡ used links
  pub some : 0 < tail
  pub empty : word 0 ≡ []
  pub first : slice_index_or queue 0 0 ≡ G.start
  pub inside : (i : ℕ) → i < tail → slice_index queue i < G.nodes
  pub once : (i j : ℕ) → i < j → j < tail → slice_index queue i ≢ slice_index queue j
  pub marked : (i : ℕ) → i < tail → slice_index links (slice_index queue i) ≢ 0
  pub placed : (x : ℕ) → x < G.nodes → (slice_index links x ≢ 0) → (i : ℕ) × (i < tail) × (slice_index queue i ≡ x)
  pub leads : (i : ℕ) → i < tail → Leads G G.start (word i) (slice_index queue i)
  pub linked : (i : ℕ) → 0 < i → i < tail → Linked links queue word i
  pub rising : (i j : ℕ) → i < j → j < tail → Before (word i) (word j)

-- The search is at label l of the queue's place h. Every word of the queue comes before that of place h with l after it;
-- each edge that was followed leads to a node of the queue whose word is not after the word along that edge; and no node before place h is wanted.
pub record Walked (G : LabelledGraph) (links queue : List ℕ) (h l tail : ℕ) : Type 0 where
  pub entries : Entries G links queue tail
  pub below : h < tail → (i : ℕ) → i < tail → Before (entries.word i) (entries.word h ++ l ∷ [])
  pub followed : (i k y : ℕ) → i < tail → Followed h l i k → G.goes (slice_index queue i) k ≡ Some y → (j : ℕ) × (j < tail) × (slice_index queue j ≡ y) × NotAfter (entries.word j) (entries.word i ++ k ∷ [])
  pub unwanted : (i : ℕ) → i < h → G.wanted (slice_index queue i) ≡ false

-- a node that was not entered before gets its link and the queue's next place; one that was changes nothing
abbrev pub Entered : List ℕ → List ℕ → ℕ → ℕ → ℕ → List ℕ → List ℕ → ℕ → Type 0
Entered links queue tail x link links' queue' tail' =
    ((slice_index links x ≡ 0) × (links' ≡ slice_set links x link) × (queue' ≡ slice_set queue tail x) × (tail' ≡ tail + 1))
    ⊎ ((slice_index links x ≢ 0) × (links' ≡ links) × (queue' ≡ queue) × (tail' ≡ tail))

-- there is no wanted word, and every reachable node was taken; or the links give the least wanted word from place i of the queue,
-- and the nodes whose least words come before it were taken
abbrev pub FirstWanted : LabelledGraph → List ℕ → List ℕ → Option ℕ → Type 0
FirstWanted G links queue None = ((w : Word) → WantedWord G w → ⊥) × Taken G (Reachable G)
FirstWanted G links queue (Some i) = (i < G.nodes) × ((w : Word) × Traced links queue i w × LeastWanted G w × Taken G (ReachedBefore G w))
