-- The test decides the relation. Assumes nothing.
use Rattle.std.proofs.Common.{◌≡◌, ℕ, true, false, List, [], ◌∷◌, Some, None, Decides, Option, refl, ap, ◌∙◌}
use Rattle.std.proofs.lemmas.Bool.{false≢true}
use Rattle.tables.specs.Tables.{Table, onward, ends_from, takes}
use Rattle.tables.specs.Words.{Leads, stays, steps, Takes}

module _ {S : Type 0} (t : Table S) where
  found : (x : ℕ) (w : List S) → ends_from t x w ≡ true → (z : ℕ) × Leads t x w z × (t.ending z ≡ true)
  found x [] e = (x, stays, e)
  found x (a ∷ w) e = by (t.goes x a) refl e (λ y. found y w)
    where
      by : (o : Option ℕ) → t.goes x a ≡ o → onward o false (λ y. ends_from t y w) ≡ true → ((y : ℕ) → ends_from t y w ≡ true → (z : ℕ) × Leads t y w z × (t.ending z ≡ true)) → (z : ℕ) × Leads t x (a ∷ w) z × (t.ending z ≡ true)
      by None g e on = absurd (false≢true e)
      by (Some y) g e on = let r = on y e in (r.0, steps g r.1, r.2)

  reached : {x z : ℕ} {w : List S} → Leads t x w z → ends_from t x w ≡ t.ending z
  reached stays = refl
  reached (steps {w = w} g l) = ap (λ o. onward o false (λ y. ends_from t y w)) g ∙ reached l

  pub takes_decides : (w : List S) → Decides (takes t w) (Takes t w)
  takes_decides w = (found t.start w, λ r. reached r.1 ∙ r.2)
