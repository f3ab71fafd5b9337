-- The layers keep their laws, alone and piled. Assumes nothing.
use Rattle.std.proofs.Common.{ℕ, ◌+◌, ◌*◌, ◌≤◌, Bool, leb, ◌↔◌, List, [], ◌∷◌, length, sym, refl, ap, ◌∙◌, subst}
use Rattle.std.proofs.lemmas.Bool.{and_parts, and_from, leb-true, le-leb}
use Rattle.symbols.specs.Kinds.{KindLaws}
use Rattle.tables.specs.Tables.{Table, Sound, takes}
use Rattle.tables.specs.Words.{Takes}
use Rattle.tables.specs.Layers.{own, skip_table, held, limit_table}
use Rattle.tables.specs.Piles.{skip, limit, piled}
use Rattle.tables.specs.Laws.{SkipLaw, LimitLaw, PileLaw}
use Rattle.tables.proofs.Laws.{skip_sound, skip_alike}
use Rattle.tables.proofs.Leading.{takes_decides}
use Rattle.tables.proofs.Limits.{limit_alike, limited_sound}
use Rattle.tables.proofs.Taken.{skip_takes, limit_takes}

-- skip takes a word exactly when the table below takes it with the foreign symbols dropped
pub skip_rel : {S : Type 0} (foreign : S → Bool) (t : Table S) → Sound t → (w : List S) → Takes (skip_table foreign t) w ↔ Takes t (own foreign w)
skip_rel foreign t l w =
    let above = takes_decides (skip_table foreign t) w in
    let below = takes_decides t (own foreign w) in
    let e = skip_takes foreign t l w in
    (λ h. below.0 (sym e ∙ above.1 h), λ h. above.0 (e ∙ below.1 h))

-- limit takes exactly the words of at most n symbols that the table below takes
pub limit_rel : {S : Type 0} (n : ℕ) (t : Table S) → Sound t → (w : List S) → Takes (limit_table n t) w ↔ ((length w ≤ n) × Takes t w)
limit_rel n t l w =
    let above = takes_decides (limit_table n t) w in
    let below = takes_decides t w in
    let e = limit_takes n t l w in (
      λ h. let p = and_parts (leb (length w) n) (takes t w) (sym e ∙ above.1 h) in (leb-true (length w) n p.0, below.0 p.1),
      λ h. above.0 (e ∙ and_from (leb (length w) n) (takes t w) (le-leb (length w) n h.0) (below.1 h.1)),
    )

module _ {S : Type 0} (same : S → S → Bool) (foreign : S → Bool) (k : KindLaws same foreign) where
  pub skip_is : SkipLaw same foreign
  skip_is t l = record {
    sound = skip_sound foreign t l;
    alike = λ a. skip_alike foreign t a k;
    takes = skip_rel foreign t l;
  }

  pub limit_is : LimitLaw same foreign
  limit_is asked t l = record {
    sound = limited_sound asked t l;
    alike = λ a. limit_alike (held t.states asked) t a;
    takes = limit_rel (held t.states asked) t l;
  }

  pub pile_is : PileLaw same foreign
  pile_is [] t l = record {
    sound = l;
    states = refl;
    alike = λ a. a;
    takes = λ w. (λ h. h, λ h. h);
  }
  pile_is (skip ∷ layers) t l =
      let below = pile_is layers t l in
      let over = skip_is (piled foreign layers t) below.sound in
      record {
        sound = over.sound;
        states = below.states;
        alike = λ a. over.alike (below.alike a);
        takes = λ w. (λ h. (below.takes (own foreign w)).0 ((over.takes w).0 h), λ h. (over.takes w).1 ((below.takes (own foreign w)).1 h));
      }
  pile_is (limit n ∷ layers) t l =
      let below = pile_is layers t l in
      let over = limit_is n (piled foreign layers t) below.sound in
      let e = below.states in
      record {
        sound = over.sound;
        states = ap (λ (m : ℕ). m * (held m n + 1)) e;
        alike = λ a. over.alike (below.alike a);
        takes = λ w. (
          λ h. let p = (over.takes w).0 h in (subst (λ (m : ℕ). length w ≤ held m n) e p.0, (below.takes w).0 p.1),
          λ h. (over.takes w).1 (subst (λ (m : ℕ). length w ≤ held m n) (sym e) h.0, (below.takes w).1 h.1),
        );
      }
