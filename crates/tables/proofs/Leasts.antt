-- What is sought is the least place that fits. Assumes nothing.
use Rattle.std.proofs.Common.{◌≡◌, ℕ, zero, suc, ◌+◌, Bool, true, false, cond, ◌&&◌, List, [], ◌∷◌, length, Some, None, Option, sym, refl, subst, ⊎_elim, add-zero, arith, MatchOption}
use Rattle.std.proofs.lemmas.Bool.{and_parts, and_cases, both_ways}
use Rattle.tables.specs.Places.{bit, sought}
use Rattle.tables.specs.Least.{NoneBelow, Least}

module _ {S : Type 0} (same : S → S → Bool) (row : ℕ) (a : S) where
  abbrev Sought : ℕ → List S → Option ℕ → Type 0
  Sought i xs o = MatchOption o (NoneBelow same row a xs i (length xs)) (λ y. Least same row a xs i y)

  over : (i n : ℕ) (s : S) (xs : List S) → (bit row i && same s a) ≡ false → NoneBelow same row a xs (i + 1) n → NoneBelow same row a (s ∷ xs) i (suc n)
  over i n s xs e h zero l b = λ d. ⊎_elim (λ f. absurd (both_ways (bit row i) f (subst (λ (k : ℕ). bit row k ≡ true) (add-zero i) b))) (λ f. f) (and_cases (bit row i) (same s a) e)
  over i n s xs e h (suc k) l b = h k (omega arith) (subst (λ (m : ℕ). bit row m ≡ true) (omega arith) b)

  pub sought_is : (i : ℕ) (xs : List S) → Sought i xs (sought same row a i xs)
  sought_is i [] = λ k l. absurd (omega arith)
  sought_is i (s ∷ xs) = by (bit row i && same s a) refl (sought same row a (i + 1) xs) (sought_is (i + 1) xs)
    where
      by : (t : Bool) → (bit row i && same s a) ≡ t → (o : Option ℕ) → Sought (i + 1) xs o → Sought i (s ∷ xs) (cond t (Some (i + 1)) o)
      by true e o h = let p = and_parts (bit row i) (same s a) e in record {
        place = 0;
        counted = omega arith;
        fits = record { within = omega arith; set = subst (λ (k : ℕ). bit row k ≡ true) (sym (add-zero i)) p.0; like = λ d. p.1 };
        first = λ k l. absurd (omega arith);
      }
      by false e None h = over i (length xs) s xs e h
      by false e (Some y) h = record {
        place = suc h.place;
        counted = omega (arith, h.counted);
        fits = record { within = omega (arith, h.fits.within); set = subst (λ (m : ℕ). bit row m ≡ true) (omega arith) h.fits.set; like = h.fits.like };
        first = over i h.place s xs e h.first;
      }
