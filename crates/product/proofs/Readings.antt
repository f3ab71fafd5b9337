-- Where a reader is after the symbols of positions, stuck or not.
use Rattle.std.proofs.Common.{◌≡◌, ℕ, Bool, true, false, List, [], ◌∷◌, length, Some, None, Option, unwrap_or, sym, refl, ap, ◌∙◌, inl, inr, arith}
use Rattle.std.proofs.lemmas.Bool.{cases_Bool, false≢true}
use Rattle.language.specs.Meaning.{symbol_at, like, before, spelled, Spells}
use Rattle.language.proofs.Symbols.{symbol_some, Within}
use Rattle.tables.specs.Tables.{Table, Sound, Alike, onward, ends_from}
use Rattle.product.specs.Pairs.{after}

module _ {S : Type 0} (t : Table S) (H : Sound t) (xs : List S) where
  -- the reader's state after the symbols of the positions, from state y
  abbrev pub run : ℕ → List ℕ → ℕ
  run y [] = y
  run y (x ∷ w) = run (after t y (symbol_at xs x)) w

  stuck_after : (o : Option S) → after t t.states o ≡ t.states
  stuck_after None = refl
  stuck_after (Some a) = «by» (t.goes t.states a) refl
    where
      «by» : (o : Option ℕ) → t.goes t.states a ≡ o → unwrap_or o t.states ≡ t.states
      «by» None e = refl
      «by» (Some y) e = absurd (let h = H.leaves t.states y a e in omega (arith, h))

  stuck_ending : t.ending t.states ≡ false
  stuck_ending = elim (cases_Bool (t.ending t.states)) [ inl e ↦ absurd (let h = H.ends t.states e in omega (arith, h)) | inr e ↦ e ]

  -- a stuck reader stays so, and ends no word
  stuck_run : (w : List ℕ) → t.ending (run t.states w) ≡ false
  stuck_run [] = stuck_ending
  stuck_run (x ∷ w) = ap (λ y. t.ending (run y w)) (stuck_after (symbol_at xs x)) ∙ stuck_run w

  -- the reader ends after the positions exactly when it takes their symbols
  pub run_ends : (same : S → S → Bool) (w : List ℕ) (y : ℕ) → Within same (length xs) w → t.ending (run y w) ≡ ends_from t y (spelled xs w)
  run_ends same [] y h = refl
  run_ends same (x ∷ w) y h =
      let a = symbol_some xs x h.0.0 h.0.1 in
      ap (λ o. t.ending (run (after t y o) w)) a.1
      ∙ «by» a.0 (t.goes y a.0) refl (λ z. run_ends same w z h.1)
      ∙ sym (ap (λ o. ends_from t y (before o (spelled xs w))) a.1)
    where
      «by» : (a : S) (o : Option ℕ) → t.goes y a ≡ o → ((z : ℕ) → t.ending (run z w) ≡ ends_from t z (spelled xs w))
          → t.ending (run (unwrap_or (t.goes y a) t.states) w) ≡ onward (t.goes y a) false (λ z. ends_from t z (spelled xs w))
      «by» a None e on = ap (λ o. t.ending (run (unwrap_or o t.states) w)) e ∙ stuck_run w ∙ sym (ap (λ o. onward o false (λ z. ends_from t z (spelled xs w))) e)
      «by» a (Some z) e on = ap (λ o. t.ending (run (unwrap_or o t.states) w)) e ∙ on z ∙ sym (ap (λ o. onward o false (λ z. ends_from t z (spelled xs w))) e)

-- same symbols lead alike, so that a word is taken exactly when the symbols of the positions that spell it are
pub alike_ends : {S : Type 0} (same : S → S → Bool) (t : Table S) → Alike same t → (xs : List S) (w : List ℕ) (s : List S) (y : ℕ) → Spells same xs w s → ends_from t y (spelled xs w) ≡ ends_from t y s
alike_ends same t A xs [] [] y h = refl
alike_ends same t A xs [] (a ∷ s) y h = absurd h
alike_ends same t A xs (x ∷ w) [] y h = absurd h
alike_ends {S} same t A xs (x ∷ w) (a ∷ s) y h = «by» (symbol_at xs x) h.0 (λ z. alike_ends same t A xs w s z h.1)
  where
    onto : (o : Option ℕ) → ((z : ℕ) → ends_from t z (spelled xs w) ≡ ends_from t z s) → onward o false (λ z. ends_from t z (spelled xs w)) ≡ onward o false (λ z. ends_from t z s)
    onto None on = refl
    onto (Some z) on = on z

    «by» : (o : Option S) → like same o a ≡ true → ((z : ℕ) → ends_from t z (spelled xs w) ≡ ends_from t z s) → ends_from t y (before o (spelled xs w)) ≡ ends_from t y (a ∷ s)
    «by» None e on = absurd (false≢true e)
    «by» (Some b) e on = ap (λ o. onward o false (λ z. ends_from t z (spelled xs w))) (A y b a e) ∙ onto (t.goes y a) on
