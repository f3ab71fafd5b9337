-- Calls on a shelf between which something else writes in its lists, or replaces them: what a place that is spared holds and answers. Assumes nothing.
use Rattle.std.specs.Prelude.{◌≡◌, ℕ, ◌≤◌, Bool, true, cond, List, [], ◌∷◌, length, Option, ◌==◌, is_some}
use Rattle.language.specs.Meaning.{Model}
use Rattle.shelf.specs.Places.{front, record_at, has, Holds}
use Rattle.comparison.specs.Answers.{Reply}
use Rattle.comparison.specs.Runs.{Request, place_of, Memory, Did, changed, Says}

module _ {S : Type 0} (q : ℕ) where
  -- place q exists, and its cells are as they were
  pub record SameCells (s t : Memory S) : Type 0 where
    pub exists : has t.base q ≡ true
    pub symbols : (n : ℕ) → n ≤ 64 → front t.base.symbols q n ≡ front s.base.symbols q n
    pub numbers : (n : ℕ) → n ≤ 64 → front t.base.numbers q n ≡ front s.base.numbers q n

  -- the shelf is as it was and, if place q is taken, so are its cells; all else may be other than it was, the lengths of the lists too
  pub record Spares (s t : Memory S) : Type 0 where
    pub records : t.base.shelf.records ≡ s.base.shelf.records
    pub cells : is_some (record_at s.base.shelf q) ≡ true → SameCells s t

module _ {S : Type 0} (same : S → S → Bool) where
  -- calls anywhere, done or refused, and between them changes from outside that spare place q
  pub data Lived (q : ℕ) : Memory S → List (Request S) → List Reply → Memory S → Type 0 where
    rests : {s : Memory S} → Lived q s [] [] s
    acts : {s t u : Memory S} {a : Request S} {asks : List (Request S)} {r : Reply} {rs : List Reply} → Did same s a r t → Lived q t asks rs u → Lived q s (a ∷ asks) (r ∷ rs) u
    spared : {s t u : Memory S} {asks : List (Request S)} {rs : List Reply} → Spares q s t → Lived q t asks rs u → Lived q s asks rs u

  -- the same, where place q has k first and k' last, and each answer to a call at q is the plain shelf's
  pub data LivesAt (q : ℕ) : Option (Model S) → Memory S → List (Request S) → List Reply → Memory S → Option (Model S) → Type 0 where
    rests : {k : Option (Model S)} {s : Memory S} → LivesAt q k s [] [] s k
    acts : {k k' : Option (Model S)} {s t u : Memory S} {a : Request S} {asks : List (Request S)} {r : Reply} {rs : List Reply} → Did same s a r t
        → (place_of a ≡ q → Says same (has s.base) (length s.work) a k s.word r t.word) → LivesAt q (cond (q == place_of a) (changed a r k) k) t asks rs u k' → LivesAt q k s (a ∷ asks) (r ∷ rs) u k'
    spared : {k k' : Option (Model S)} {s t u : Memory S} {asks : List (Request S)} {rs : List Reply} → Spares q s t → LivesAt q k t asks rs u k' → LivesAt q k s asks rs u k'

  -- a place that is spared holds at the end what the plain shelf has there, and answers as it does
  abbrev pub LivesAgree : Type 0
  LivesAgree = (q : ℕ) (s u : Memory S) (asks : List (Request S)) (rs : List Reply) (k : Option (Model S)) → Lived q s asks rs u → Holds same s.base q k → (k' : Option (Model S)) × LivesAt q k s asks rs u k' × Holds same u.base q k'
