-- A place that is spared is the plain shelf's, whatever else is written. Assumes nothing.
use Rattle.std.proofs.Common.{◌≡◌, ℕ, Bool, true, cond, eqb, List, get_or, Some, None, Option, sym, refl, ap, subst, is_some}
use Rattle.symbols.specs.Kinds.{KindLaws}
use Rattle.language.specs.Meaning.{Model}
use Rattle.shelf.specs.declared.records.Summary.{Summary}
use Rattle.shelf.specs.Places.{front, record_at, Kept, HoldsAt, Holds}
use Rattle.comparison.specs.Answers.{Reply}
use Rattle.comparison.specs.Runs.{Request, place_of, Memory, changed}
use Rattle.comparison.specs.Lives.{SameCells, Spares, Lived, LivesAt, LivesAgree}
use Rattle.comparison.specs.Lives.Lived.{rests, acts, spared}
use Rattle.comparison.specs.Lives.LivesAt.{rests as rests-at, acts as acts-at, spared as spared-at}
use Rattle.comparison.proofs.Running.{fair}

module _ {S : Type 0} (same : S → S → Bool) where
  -- a taken place with the same cells holds the same
  kept_on : (q : ℕ) (s t : Memory S) (found : Option Summary) (k : Option (Model S)) → (is_some found ≡ true → SameCells q s t) → HoldsAt same found s.base.symbols s.base.numbers q k
      → HoldsAt same found t.base.symbols t.base.numbers q k
  kept_on q s t None None f h = tt
  kept_on q s t None (Some m) f h = h
  kept_on q s t (Some c) None f h = h
  kept_on q s t (Some c) (Some m) f h =
      let d = f refl in (
        d.exists,
        subst (λ l. Kept same c l (front t.base.numbers q c.count) m) (sym (d.symbols c.count c.fits))
            (subst (λ l. Kept same c (front s.base.symbols q c.count) l m) (sym (d.numbers c.count c.fits)) h.1),
      )

  spared_holds : (q : ℕ) (s t : Memory S) (k : Option (Model S)) → Spares q s t → Holds same s.base q k → Holds same t.base q k
  spared_holds q s t k p h =
      subst (λ found. HoldsAt same found t.base.symbols t.base.numbers q k) (sym (ap (λ l. get_or l q None) p.records))
      (kept_on q s t (record_at s.base.shelf q) k p.cells h)

module _ {S : Type 0} (same : S → S → Bool) {foreign : S → Bool} (laws : KindLaws same foreign) where
  lived : (q : ℕ) {s u : Memory S} {asks : List (Request S)} {rs : List Reply} (k : Option (Model S)) → Lived same q s asks rs u → Holds same s.base q k
      → (k' : Option (Model S)) × LivesAt same q k s asks rs u k' × Holds same u.base q k'
  lived q k rests h = (k, rests-at, h)
  lived q k (acts {s = s} {t = t} {a = a} {r = r} d rest) h =
      let f = fair same laws d in
      let ih = lived q (cond (eqb q (place_of a)) (changed a r k) k) rest (f.content q k h) in
      (ih.0, acts-at d (λ e. f.reply k (subst (λ p. Holds same s.base p k) (sym e) h)) ih.1, ih.2)
  lived q k (spared {s = s} {t = t} p rest) h = let ih = lived q k rest (spared_holds same q s t k p h) in (ih.0, spared-at p ih.1, ih.2)

  pub lives_agree : LivesAgree same
  lives_agree q s u asks rs k d h = lived q k d h
