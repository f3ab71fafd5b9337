-- The table of a reader that takes one word. Assumes nothing.
use Rattle.std.specs.Prelude.{◌≡◌, ℕ, zero, suc, ◌+◌, ◌<◌, min, Bool, true, false, cond, ◌&&◌, List, [], ◌∷◌, length, Some, None, ◌==◌, nat_lt, refl}
use Rattle.std.proofs.Common.{ap, arith}
use Rattle.std.proofs.lemmas.Bool.{eqb-true, ltb-true, and_parts, false≢true}
use Rattle.symbols.specs.Kinds.{KindLaws}
use Rattle.tables.specs.Tables.{Table, Sound, Alike}
use Rattle.tables.proofs.PlaceLaws.{same_right}

-- whether a symbol stands at x, counted from 0, that is the same as a
abbrev pub stands : {S : Type 0} → (S → S → Bool) → List S → ℕ → S → Bool
stands same [] x a = false
stands same (s ∷ word) zero a = same s a
stands same (s ∷ word) (suc x) a = stands same word x a

-- the state x is the state after x symbols of the word, of which the first 4095 count; only the last state is an ending
abbrev pub one_word_table : {S : Type 0} → (S → S → Bool) → List S → Table S
one_word_table same word = record {
  states = min 4095 (length word) + 1;
  start = 0;
  ending = λ x. (x == min 4095 (length word));
  goes = λ x a. cond (nat_lt x 4095 && stands same word x a) (Some (x + 1)) None;
}

stands_within : {S : Type 0} (same : S → S → Bool) (word : List S) (x : ℕ) (a : S) → stands same word x a ≡ true → x < length word
stands_within same [] x a e = absurd (false≢true e)
stands_within same (s ∷ word) zero a e = omega arith
stands_within same (s ∷ word) (suc x) a e = let h = stands_within same word x a e in omega arith

step_is : (b : Bool) (n y : ℕ) → cond b (Some n) None ≡ Some y → (b ≡ true) × (n ≡ y)
step_is true n y e = (refl, cc)
step_is false n y e = let z : ◌≡◌ {A = ℕ} 0 1 = cc in absurd (omega arith)

module _ {S : Type 0} (same : S → S → Bool) (word : List S) where
  -- a step is to the next state, from one with a symbol after it
  goes_on : (x y : ℕ) (a : S) → (one_word_table same word).goes x a ≡ Some y → (x < 4095) × (x < length word) × (x + 1 ≡ y)
  goes_on x y a e =
      let s = step_is _ (x + 1) y e in
      let p = and_parts (nat_lt x 4095) (stands same word x a) s.0 in
      (ltb-true x 4095 p.0, stands_within same word x a p.1, s.1)

  pub one_word_sound : Sound (one_word_table same word)
  one_word_sound = record {
    some = omega arith;
    most = omega arith;
    starts = omega arith;
    ends = λ x e. omega (arith, eqb-true x (min 4095 (length word)) e);
    leaves = λ x y a e. let g = goes_on x y a e in omega (arith, g.0, g.1);
    lands = λ x y a e. let g = goes_on x y a e in omega (arith, g.0, g.1, g.2);
  }

module _ {S : Type 0} (same : S → S → Bool) where
  stands_alike : {foreign : S → Bool} → KindLaws same foreign → (word : List S) (x : ℕ) (a b : S) → same a b ≡ true → stands same word x a ≡ stands same word x b
  stands_alike k [] x a b e = refl
  stands_alike {foreign} k (s ∷ word) zero a b e = same_right same foreign k s a b e
  stands_alike k (s ∷ word) (suc x) a b e = stands_alike k word x a b e

  pub one_word_alike : {foreign : S → Bool} → KindLaws same foreign → (word : List S) → Alike same (one_word_table same word)
  one_word_alike k word x a b e = ap (λ t. cond (nat_lt x 4095 && t) (Some (x + 1)) None) (stands_alike k word x a b e)
