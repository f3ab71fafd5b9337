-- The theorems on the answers of a comparison.
use Rattle.std.proofs.Common.{◌≡◌, ℕ, ◌*◌, ◌<◌, ◌≤◌, Bool, List, ◌++◌, length, drop, Ok, Result, sym, refl, ap, subst, arith, Some, Option}
use Rattle.symbols.specs.Kinds.{KindLaws}
use Rattle.faults.specs.declared.Fault.{Fault}
use Rattle.language.specs.Meaning.{Model, Formed, spelled, Spells, Word}
use Rattle.language.proofs.Symbols.{spells_own}
use Rattle.tables.specs.Tables.{Table}
use Rattle.tables.specs.Words.{Takes}
use Rattle.walk.proofs.Words.{notafter_both}
use Rattle.product.specs.Compares.{LeastAstray, pairs, CompareSays, little_work, little_word, included, missed}
use Rattle.product.specs.Theorems.{OneComparison, IncludedExactly, SameWords}
use Rattle.product.proofs.Astray.{marked_within}

module _ {S : Type 0} (same : S → S → Bool) {foreign : S → Bool} (laws : KindLaws same foreign) where
  -- a word that goes astray is a word of the model that the table does not take
  astray_not : (t : Table S) (m : Model S) → Formed m → (w : List ℕ) → LeastAstray t m w → ((s : List S) → Word same m s → Takes t s) → ⊥
  astray_not t m F w l f =
      l.astray (f (spelled m.symbols w) (w, l.marked, spells_own same laws.reflexive m.symbols w (marked_within same m F w l.marked)))

  astray_one : (t : Table S) (m : Model S) (w v : List ℕ) → LeastAstray t m w → LeastAstray t m v → w ≡ v
  astray_one t m w v l k = notafter_both w v (l.least v k.marked k.astray) (k.least w l.marked l.astray)

  pub one : OneComparison same
  one t m F work word u v a b (little_work h) (little_work k) = (refl, refl)
  one t m F work word u v a b (little_work h) (little_word k l) = absurd (omega (arith, h, k))
  one t m F work word u v a b (little_work h) (included k l f) = absurd (omega (arith, h, k))
  one t m F work word u v a b (little_work h) (missed k l f) = absurd (omega (arith, h, k))
  one t m F work word u v a b (little_word h i) (little_work k) = absurd (omega (arith, h, k))
  one t m F work word u v a b (little_word h i) (little_word k l) = (refl, refl)
  one t m F work word u v a b (little_word h i) (included k l f) = absurd (omega (arith, i, l))
  one t m F work word u v a b (little_word h i) (missed k l f) = absurd (omega (arith, i, l))
  one t m F work word u v a b (included h i g) (little_work k) = absurd (omega (arith, h, k))
  one t m F work word u v a b (included h i g) (little_word k l) = absurd (omega (arith, i, l))
  one t m F work word u v a b (included h i g) (included k l f) = (refl, refl)
  one t m F work word u v a b (included h i g) (missed {w = w} k l f) = absurd (astray_not t m F w f g)
  one t m F work word u v a b (missed h i g) (little_work k) = absurd (omega (arith, h, k))
  one t m F work word u v a b (missed h i g) (little_word k l) = absurd (omega (arith, i, l))
  one t m F work word u v a b (missed {w = w} h i g) (included k l f) = absurd (astray_not t m F w g f)
  one t m F work word u v a b (missed {w = w} h i g) (missed {w = x} k l f) =
      let q = astray_one t m w x g f in (ap (λ y. Ok (Some (length y))) q, ap (λ y. y ++ drop (length y) word) q)

  pub exactly : IncludedExactly same
  exactly t m F work word word' r h k (little_work i) = absurd (omega (arith, h, i))
  exactly t m F work word word' r h k (little_word i j) = absurd (omega (arith, k, j))
  exactly t m F work word word' r h k (included i j f) = ((λ q. f), (λ q. refl))
  exactly t m F work word word' r h k (missed {w = w} i j l) =
      ((λ q. let z : ◌≡◌ {A = ℕ} 0 1 = cc in absurd (omega (arith, z))), (λ f. absurd (astray_not t m F w l f)))

pub same_words : {S : Type 0} (same : S → S → Bool) → SameWords same
same_words {S} same t m k q f work word word' r d = «by» d
  where
    size : pairs t m ≡ pairs t k
    size = ap (λ xs. pairs t (record { codes = m.codes; symbols = xs })) q

    turned : (v : List ℕ) → (Takes t (spelled k.symbols v) → ⊥) → Takes t (spelled m.symbols v) → ⊥
    turned v a = subst (λ xs. Takes t (spelled xs v) → ⊥) (sym q) a

    least : {w : List ℕ} → LeastAstray t m w → LeastAstray t k w
    least {w} l = record {
      marked = (f w).0 l.marked;
      astray = subst (λ xs. Takes t (spelled xs w) → ⊥) q l.astray;
      least = λ v d a. l.least v ((f v).1 d) (turned v a);
    }

    words : ((s : List S) → Word same m s → Takes t s) → (s : List S) → Word same k s → Takes t s
    words g s d = g s (d.0, (f d.0).1 d.1, subst (λ xs. Spells same xs d.0 s) (sym q) d.2)

    «by» : {r : Result (Option ℕ) Fault} {u : List ℕ} → CompareSays same t m work word r u → CompareSays same t k work word r u
    «by» (little_work h) = rw (size) (little_work (subst (λ i. work < 2 * i) size h))
    «by» (little_word h i) = rw (size) (little_word (subst (λ i. 2 * i ≤ work) size h) (subst (λ i. length word < i) size i))
    «by» (included h i g) = included (subst (λ i. 2 * i ≤ work) size h) (subst (λ i. i ≤ length word) size i) (words g)
    «by» (missed h i l) = missed (subst (λ i. 2 * i ≤ work) size h) (subst (λ i. i ≤ length word) size i) (least l)
