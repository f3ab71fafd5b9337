-- A reader by places is lawful, whatever its slices hold. Assumes nothing.
use Rattle.std.proofs.Common.{◌≡◌, ℕ, ◌+◌, ◌<◌, ◌≤◌, min, Bool, true, false, cond, ◌&&◌, leb, ◌⊎◌, List, [], ◌∷◌, length, take, Some, Option, sym, refl, ap, ◌∙◌, inl, inr, ⊎_elim, arith}
use Rattle.std.proofs.lemmas.List.{length-take}
use Rattle.std.proofs.lemmas.Bool.{cases_Bool}
use Rattle.std.proofs.lemmas.Bool.Decides.{nat_tests}
use Rattle.symbols.specs.Kinds.{KindLaws}
use Rattle.tables.specs.Tables.{Sound, Alike}
use Rattle.tables.specs.Places.{bit, sought, row_of, place_table}
use Rattle.tables.proofs.Places.{sought_none}
use Rattle.tables.proofs.Laws.{none_some}

cond_some : (b : Bool) (n y : ℕ) (o : Option ℕ) → cond b (Some n) o ≡ Some y → (n ≡ y) ⊎ (o ≡ Some y)
cond_some true n y o e = inl (cc)
cond_some false n y o e = inr e

sought_below : {S : Type 0} (same : S → S → Bool) (row : ℕ) (a : S) (i y : ℕ) (xs : List S) → sought same row a i xs ≡ Some y → y ≤ i + length xs
sought_below same row a i y [] e = absurd (none_some y e)
sought_below same row a i y (x ∷ xs) e =
    ⊎_elim (λ q. omega arith) (λ q. let h = sought_below same row a (i + 1) y xs q in omega arith) (cond_some (bit row i && same x a) (i + 1) y (sought same row a (i + 1) xs) e)

same_eq : (b c : Bool) → (b ≡ true → c ≡ true) → (c ≡ true → b ≡ true) → b ≡ c
same_eq true c f g = sym (f refl)
same_eq false true f g = g refl
same_eq false false f g = refl

module _ {S : Type 0} (same : S → S → Bool) (foreign : S → Bool) (k : KindLaws same foreign) where
  pub same_right : (x a b : S) → same a b ≡ true → same x a ≡ same x b
  same_right x a b s = same_eq (same x a) (same x b) (λ p. k.transitive x a b p s) (λ p. k.transitive x b a p (k.symmetric a b s))

  sought_alike : (row : ℕ) (a b : S) (i : ℕ) (xs : List S) → same a b ≡ true → sought same row a i xs ≡ sought same row b i xs
  sought_alike row a b i [] s = refl
  sought_alike row a b i (x ∷ xs) s = let h = same_right x a b s in let t = sought_alike row a b (i + 1) xs s in cc

module _ {S : Type 0} (same : S → S → Bool) (symbols : List S) (rows : List ℕ) (first last : ℕ) (nullable : Bool) where
  row_past : (x : ℕ) → min 64 (length symbols) < x → row_of first rows (min 64 (length symbols)) x ≡ 0
  row_past x h = grind (arith, nat_tests)

  leaves : (x y : ℕ) (a : S) → (place_table same symbols rows first last nullable).goes x a ≡ Some y → x < min 64 (length symbols) + 1
  leaves x y a e = by (cases_Bool (leb x (min 64 (length symbols))))
    where
      by : ((leb x (min 64 (length symbols)) ≡ true) ⊎ (leb x (min 64 (length symbols)) ≡ false)) → x < min 64 (length symbols) + 1
      by (inl t) = grind (arith, nat_tests)
      by (inr f) =
          let h : min 64 (length symbols) < x = grind (arith, nat_tests) in
          absurd (none_some y (sym (ap (λ row. sought same row a 0 (take 64 symbols)) (row_past x h) ∙ sought_none same a 0 (take 64 symbols)) ∙ e))

  pub place_sound : Sound (place_table same symbols rows first last nullable)
  place_sound = record {
    some = omega arith;
    most = omega arith;
    starts = omega arith;
    ends = λ x e. grind (arith, nat_tests);
    leaves = leaves;
    lands = λ x y a e. let h = sought_below same (row_of first rows (min 64 (length symbols)) x) a 0 y (take 64 symbols) e in omega (arith, length-take 64 symbols);
  }

  pub place_alike : {foreign : S → Bool} → KindLaws same foreign → Alike same (place_table same symbols rows first last nullable)
  place_alike {foreign} k x a b s = sought_alike same foreign k (row_of first rows (min 64 (length symbols)) x) a b 0 (take 64 symbols) s
