-- From a reader that takes just the words of a model to the verdict on two models. Assumes nothing.
use Rattle.std.proofs.Common.{ℕ, Bool, ◌↔◌, List}
use Rattle.symbols.specs.Kinds.{KindLaws}
use Rattle.language.specs.Words.{Marked}
use Rattle.language.specs.Meaning.{Model, body, Formed, spelled, Word}
use Rattle.language.proofs.Symbols.{spells_own}
use Rattle.walk.proofs.Words.{notafter_both}
use Rattle.tables.specs.Tables.{Table}
use Rattle.tables.specs.Words.{Takes}
use Rattle.product.specs.Compares.{LeastAstray}
use Rattle.product.proofs.Astray.{marked_within}
use Rattle.verdicts.specs.Verdicts.{Included, LeastMissed}
use Rattle.verdicts.specs.Theorems.{OneVerdict}

module _ {S : Type 0} (same : S → S → Bool) {foreign : S → Bool} (laws : KindLaws same foreign) where
  -- a marked word of a well-formed model spells a word of it
  own_word : (m : Model S) (w : List ℕ) → Formed m → Marked (body m) w → Word same m (spelled m.symbols w)
  own_word m w F l = (w, l, spells_own same laws.reflexive m.symbols w (marked_within same m F w l))

  pub one_verdict : OneVerdict same
  one_verdict = record {
    either = λ m n w F i l. l.missed (i (spelled m.symbols w) (own_word m w F l.marked));
    word = λ m n w v l k. notafter_both w v (l.least v k.marked k.missed) (k.least w l.marked l.missed);
  }

module _ {S : Type 0} (same : S → S → Bool) (t : Table S) (n : Model S) (just : (s : List S) → Takes t s ↔ Word same n s) where
  pub taken_included : (m : Model S) → ((s : List S) → Word same m s → Takes t s) → Included same m n
  taken_included m f s d = (just s).0 (f s d)

  pub astray_missed : (m : Model S) (w : List ℕ) → LeastAstray t m w → LeastMissed same m n w
  astray_missed m w l = record {
    marked = l.marked;
    missed = λ d. l.astray ((just (spelled m.symbols w)).1 d);
    least = λ v d a. l.least v d (λ k. a ((just (spelled m.symbols v)).0 k));
  }
