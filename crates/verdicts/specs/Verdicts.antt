-- What one model is to another: included, or not, with the least word that shows it. Assumes nothing.
use Rattle.std.specs.Prelude.{ℕ, Bool, List}
use Rattle.language.specs.Words.{Marked}
use Rattle.language.specs.Meaning.{Model, body, spelled, Word}
use Rattle.walk.specs.Order.{NotAfter}

module _ {S : Type 0} (same : S → S → Bool) where
  -- m is included in n: each word of m is a word of n
  abbrev pub Included : Model S → Model S → Type 0
  Included m n = (s : List S) → Word same m s → Word same n s

  -- of the marked words of m that spell no word of n, the least: a shorter one comes before a longer one, and of equally long ones the
  -- smaller position at the first difference decides
  pub record LeastMissed (m n : Model S) (w : List ℕ) : Type 0 where
    pub marked : Marked (body m) w
    pub missed : Word same n (spelled m.symbols w) → ⊥
    pub least : (v : List ℕ) → Marked (body m) v → (Word same n (spelled m.symbols v) → ⊥) → NotAfter w v
