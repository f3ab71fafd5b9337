-- What a reader means: a table of states. Assumes nothing.
use Rattle.std.specs.Prelude.{◌≡◌, ℕ, ◌<◌, ◌≤◌, Bool, true, false, List, [], ◌∷◌, Some, None, Option}

-- a table: how many states there are, numbered from 0; the start; which states are endings; and the state, if any, to which a symbol leads from a state
pub record Table (S : Type 0) : Type 0 where
  pub states : ℕ
  pub start : ℕ
  pub ending : ℕ → Bool
  pub goes : ℕ → S → Option ℕ

-- a table is sound: 1 to 4096 states; the start, the endings and the states to which symbols lead are among them; and no symbol leads on from any other number
pub record Sound {S : Type 0} (t : Table S) : Type 0 where
  pub some : 1 ≤ t.states
  pub most : t.states ≤ 4096
  pub starts : t.start < t.states
  pub ends : (x : ℕ) → t.ending x ≡ true → x < t.states
  pub leaves : (x y : ℕ) (a : S) → t.goes x a ≡ Some y → x < t.states
  pub lands : (x y : ℕ) (a : S) → t.goes x a ≡ Some y → y < t.states

-- same symbols lead alike
abbrev pub Alike : {S : Type 0} → (S → S → Bool) → Table S → Type 0
Alike {S} same t = (x : ℕ) (a b : S) → same a b ≡ true → t.goes x a ≡ t.goes x b

-- what follows where a symbol leads to a state, and else the first of the two
abbrev pub onward : {A : Type 0} → Option ℕ → A → (ℕ → A) → A
onward None stuck on = stuck
onward (Some y) stuck on = on y

-- whether the word leads from the state x to an ending
abbrev pub ends_from : {S : Type 0} → Table S → ℕ → List S → Bool
ends_from t x [] = t.ending x
ends_from t x (a ∷ w) = onward (t.goes x a) false (λ y. ends_from t y w)

-- whether the word leads from the start to an ending, as a test
abbrev pub takes : {S : Type 0} → Table S → List S → Bool
takes t w = ends_from t t.start w
