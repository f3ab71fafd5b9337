-- What follows from the definitions alone.
use Rattle.std.specs.Prelude.{◌≡◌, ℕ, List, Option, Result}
use Rattle.walk.specs.declared.Shortage.{Shortage}
use Rattle.walk.specs.Graph.{LabelledGraph}
use Rattle.walk.specs.Entry.{On, InOrder}
use Rattle.walk.specs.Answer.{Answer}

-- for a graph and two lists there is one answer, and one word list that is given back with it
abbrev pub OneAnswer : Type 0
OneAnswer =
    (G : LabelledGraph) (work word work₁ word₁ work₂ word₂ : List ℕ) (a b : Result (Option ℕ) Shortage)
    → Answer G work word work₁ word₁ a → Answer G work word work₂ word₂ b → (a ≡ b) × (word₁ ≡ word₂)

-- there is one list of the same nodes in the order of their least words
abbrev pub OneOrder : Type 0
OneOrder =
    (G : LabelledGraph) (xs ys : List ℕ) → InOrder G xs → InOrder G ys
    → ((x : ℕ) → On xs x → On ys x) → ((x : ℕ) → On ys x → On xs x) → xs ≡ ys
