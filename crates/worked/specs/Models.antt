-- The models of the worked cases: postfix codes, and a symbol for each position. Above each stands its text. Assumes nothing.
use Rattle.std.specs.Prelude.{[], ◌∷◌}
use Rattle.language.specs.Meaning.{Model, given}

module _ {S : Type 0} where
  -- (a*,a,a*)
  abbrev pub star_a_star : S → Model S
  star_a_star a = given (1 ∷ 5 ∷ 1 ∷ 2 ∷ 1 ∷ 5 ∷ 2 ∷ []) (a ∷ a ∷ a ∷ [])

  -- ((a,b?)*,b)
  abbrev pub loop_then_b : S → S → Model S
  loop_then_b a b = given (1 ∷ 1 ∷ 4 ∷ 2 ∷ 5 ∷ 1 ∷ 2 ∷ []) (a ∷ b ∷ b ∷ [])

  -- (a,a*)
  abbrev pub a_then_star : S → Model S
  a_then_star a = given (1 ∷ 1 ∷ 5 ∷ 2 ∷ []) (a ∷ a ∷ [])

  -- (a*,b*)*
  abbrev pub stars_star : S → S → Model S
  stars_star a b = given (1 ∷ 5 ∷ 1 ∷ 5 ∷ 2 ∷ 5 ∷ []) (a ∷ b ∷ [])

  -- (a|b)*
  abbrev pub either_star : S → S → Model S
  either_star a b = given (1 ∷ 1 ∷ 3 ∷ 5 ∷ []) (a ∷ b ∷ [])

  -- (a*,b*)
  abbrev pub stars : S → S → Model S
  stars a b = given (1 ∷ 5 ∷ 1 ∷ 5 ∷ 2 ∷ []) (a ∷ b ∷ [])

  -- EMPTY
  abbrev pub empty_model : Model S
  empty_model = given (0 ∷ []) []

  -- (a)
  abbrev pub only_a : S → Model S
  only_a a = given (1 ∷ []) (a ∷ [])

  -- (a,x,b)
  abbrev pub a_x_b : S → S → S → Model S
  a_x_b a x b = given (1 ∷ 1 ∷ 2 ∷ 1 ∷ 2 ∷ []) (a ∷ x ∷ b ∷ [])

  -- (a,b)
  abbrev pub a_b : S → S → Model S
  a_b a b = given (1 ∷ 1 ∷ 2 ∷ []) (a ∷ b ∷ [])

  -- (a*)
  abbrev pub a_star : S → Model S
  a_star a = given (1 ∷ 5 ∷ []) (a ∷ [])

  -- (a,b?)
  abbrev pub a_maybe_b : S → S → Model S
  a_maybe_b a b = given (1 ∷ 1 ∷ 4 ∷ 2 ∷ []) (a ∷ b ∷ [])
