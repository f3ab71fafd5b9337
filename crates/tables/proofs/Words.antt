-- One symbol more of a word. Assumes nothing.
use Rattle.std.proofs.Common.{◌≡◌, ℕ, ◌+◌, ◌<◌, false, List, length, get_or, drop, Some, None, sym, ap, ◌∙◌}
use Rattle.std.proofs.lemmas.List.{at_drop_more}
use Rattle.tables.specs.Tables.{Table, onward, ends_from}

module _ {S : Type 0} (t : Table S) (xs : List S) (i : ℕ) where
  pub step_on : (x : ℕ) (a : S) → i < length xs → a ≡ get_or xs i a → ends_from t x (drop i xs) ≡ onward (t.goes x a) false (λ z. ends_from t z (drop (i + 1) xs))
  step_on x a h r = at_drop_more (ends_from t x) xs i a h ∙ ap (λ b. onward (t.goes x b) false (λ z. ends_from t z (drop (i + 1) xs))) (sym r)

  pub step_some : (x y : ℕ) (a : S) → i < length xs → a ≡ get_or xs i a → Some y ≡ t.goes x a → ends_from t x (drop i xs) ≡ ends_from t y (drop (i + 1) xs)
  step_some x y a h r e = step_on x a h r ∙ ap (λ o. onward o false (λ z. ends_from t z (drop (i + 1) xs))) (sym e)

  pub step_none : (x : ℕ) (a : S) → i < length xs → a ≡ get_or xs i a → None ≡ t.goes x a → ends_from t x (drop i xs) ≡ false
  step_none x a h r e = step_on x a h r ∙ ap (λ o. onward o false (λ z. ends_from t z (drop (i + 1) xs))) (sym e)
