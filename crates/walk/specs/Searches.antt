-- What a search has in its graph and in its lists, and that they stay the ones that were lent.
use Rattle.std.specs.Prelude.{◌≡◌, ℕ, List, length}
use Rattle.std.specs.Borrow.{MutBor}
use Rattle.walk.specs.declared.Search.{Search}
use Rattle.walk.specs.Order.{Word}
use Rattle.walk.specs.Graph.{LabelledGraph}
use Rattle.walk.specs.Walk.{Traced, Walked}

module _ {X : Type 0} where
  -- the search is at label l of the queue's place h
  abbrev pub Searching : (X → LabelledGraph) → Search X → ℕ → ℕ → Type 0
  Searching meaning s h l = Walked (meaning s.graph.now) s.links.now s.queue.now h l s.tail

  -- the word that the links give from the queue's place i back to place 0
  abbrev pub TracedIn : Search X → ℕ → Word → Type 0
  TracedIn s i w = Traced s.links.now s.queue.now i w

  -- the graph and the lists are those that were lent, and the lists have as many cells
  pub record Begun (graph : X) (links queue : MutBor (List ℕ)) (s : Search X) : Type 0 where
    pub graph_is : s.graph.now ≡ graph
    pub links_name : s.links.ghost_name ≡ links.ghost_name
    pub queue_name : s.queue.ghost_name ≡ queue.ghost_name
    pub long_links : length s.links.now ≡ length links.now
    pub long_queue : length s.queue.now ≡ length queue.now

  -- the graph and the lists stay the same, and the lists have as many cells
  abbrev pub SameLists : Search X → Search X → Type 0
  SameLists s t = Begun s.graph.now s.links s.queue t
