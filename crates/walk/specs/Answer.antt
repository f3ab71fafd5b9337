-- What `least_word` answers. In each record `work` and `word` are the lists as lent, and `work'` and `word'` as given back.
use Rattle.std.specs.Prelude.{◌≡◌, ℕ, ◌*◌, ◌<◌, ◌≤◌, List, ◌++◌, length, drop, Some, None, Option, Ok, Err, Result}
use Rattle.walk.specs.declared.Shortage.{Shortage}
use Rattle.walk.specs.declared.Shortage.TheVariants.{Work, Word as WordCells}
use Rattle.walk.specs.Order.{Word}
use Rattle.walk.specs.Graph.{LabelledGraph, Reachable, WantedWord, LeastWanted}
use Rattle.walk.specs.Entry.{Taken, ReachedBefore}

-- the work list has fewer than two cells for each node; both lists are as they were
pub record WorkRefused (G : LabelledGraph) (work word work' word' : List ℕ) (cells : ℕ) : Type 0 where
  pub needed : cells ≡ 2 * G.nodes
  pub short : length work < cells
  pub same_work : work' ≡ work
  pub same_word : word' ≡ word

-- the work list is long enough, and the word list has fewer cells than there are nodes; both lists are as they were
pub record WordRefused (G : LabelledGraph) (work word work' word' : List ℕ) (cells : ℕ) : Type 0 where
  pub needed : cells ≡ G.nodes
  pub room_work : 2 * G.nodes ≤ length work
  pub short : length word < cells
  pub same_work : work' ≡ work
  pub same_word : word' ≡ word

-- both lists are long enough, and no word leads to a wanted node; every reachable node was taken, and the word list is as it was
pub record NoneWanted (G : LabelledGraph) (work word work' word' : List ℕ) : Type 0 where
  pub room_work : 2 * G.nodes ≤ length work
  pub room_word : G.nodes ≤ length word
  pub none : (w : Word) → WantedWord G w → ⊥
  pub order : Taken G (Reachable G)
  pub same_length : length work' ≡ length work
  pub same_word : word' ≡ word

-- both lists are long enough, and the word list begins with the least word that leads to a wanted node, its other cells as they were;
-- the nodes taken are those whose least words come before it
pub record LeastFound (G : LabelledGraph) (work word work' word' : List ℕ) (n : ℕ) : Type 0 where
  pub room_work : 2 * G.nodes ≤ length work
  pub room_word : G.nodes ≤ length word
  pub found : Word
  pub least : LeastWanted G found
  pub long : length found ≡ n
  pub order : Taken G (ReachedBefore G found)
  pub same_length : length work' ≡ length work
  pub written : word' ≡ found ++ drop n word

-- what each answer says
abbrev pub Answer : LabelledGraph → List ℕ → List ℕ → List ℕ → List ℕ → Result (Option ℕ) Shortage → Type 0
Answer G work word work' word' (Err (Work cells)) = WorkRefused G work word work' word' cells
Answer G work word work' word' (Err (WordCells cells)) = WordRefused G work word work' word' cells
Answer G work word work' word' (Ok None) = NoneWanted G work word work' word'
Answer G work word work' word' (Ok (Some n)) = LeastFound G work word work' word' n
