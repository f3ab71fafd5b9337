-- Two models with the same tables have the same symbols, marked words, words and trials. Assumes nothing.
use Rattle.std.proofs.Common.{◌≡◌, ℕ, ◌≤◌, Bool, List, [], ◌∷◌, length, Some, None, Option, sym, ap, ◌∙◌, subst, arith}
use Rattle.symbols.specs.Kinds.{KindLaws}
use Rattle.language.specs.Words.{Marked}
use Rattle.language.specs.Meaning.{Model, body, like, Spells, Word, Longest}
use Rattle.language.proofs.Symbols.{symbol_some}
use Rattle.language.proofs.Chains.{Step, Chain, step_range, chain_within, marked_chain, chain_marked}
use Rattle.language.proofs.Reading.{body_spans}
use Rattle.models.specs.declared.tables.Sets.{Sets}
use Rattle.models.specs.declared.trials.Trial.{Trial}
use Rattle.models.specs.declared.trials.Trial.TheVariants.{Yes, No}
use Rattle.models.specs.TablesOf.{TablesOf}
use Rattle.models.specs.Told.{TrialTold}
use Rattle.models.proofs.Automata.{may_goes, goes_may, ends_end, end_ends}
use Rattle.tables.specs.Tables.{Table}
use Rattle.shelf.specs.declared.records.Summary.{Summary}
use Rattle.shelf.specs.Places.{front, record_at, HoldsAt}
use Rattle.shelf.specs.Calls.{TakesJust}
use Rattle.shelf.specs.Theorems.{Agree, OneOf, OneContent}

module _ {S : Type 0} (same : S → S → Bool) {foreign : S → Bool} (laws : KindLaws same foreign) (s : Sets) (rows : List ℕ) (xs : List S) where
  -- from one model to the other
  module _ (m n : Model S) (t : TablesOf same s rows xs m) (u : TablesOf same s rows xs n) where
    same_symbols : m.symbols ≡ n.symbols
    same_symbols = sym t.symbols ∙ u.symbols

    within : (x : ℕ) → x ≤ length m.symbols → x ≤ length n.symbols
    within x h = omega (arith, ap length same_symbols)

    step_carries : (x y : ℕ) → x ≤ length m.symbols → Step (body m) x y → Step (body n) x y
    step_carries x y h p =
        let r = step_range (body m) (length m.symbols) (body_spans same m t.formed) x y p in
        let a = symbol_some m.symbols y r.0 r.1 in
        let may = goes_may same s rows xs m t x y a.0 h (p, ap (λ o. like same o a.0) a.1 ∙ laws.reflexive a.0) in
        (may_goes same s rows xs n u x y a.0 (within x h) may).0

    chain_carries : (w : List ℕ) (x z : ℕ) → x ≤ length m.symbols → Chain (body m) x w z → Chain (body n) x w z
    chain_carries [] x z h c = c
    chain_carries (y ∷ w) x z h c =
        (step_carries x y h c.0, chain_carries w y z (step_range (body m) (length m.symbols) (body_spans same m t.formed) x y c.0).1 c.1)

    marked_carries : (w : List ℕ) → Marked (body m) w → Marked (body n) w
    marked_carries w d =
        let spans = body_spans same m t.formed in
        let c = marked_chain (body m) (length m.symbols) spans w d in
        let le = chain_within (body m) (length m.symbols) spans w 0 c.0 (omega arith) c.1 in
        chain_marked (body n) (length n.symbols) (body_spans same n u.formed) w c.0 (chain_carries w 0 c.0 (omega arith) c.1)
        (ends_end same s rows xs n u c.0 (within c.0 le) (end_ends same s rows xs m t c.0 le c.2))

    word_carries : (v : List S) → Word same m v → Word same n v
    word_carries v d = (d.0, marked_carries d.0 d.1, subst (λ l. Spells same l d.0 v) same_symbols d.2)

  longest_carries : (m n : Model S) → TablesOf same s rows xs m → TablesOf same s rows xs n → (word : List S) (i : ℕ) → Longest same m word i → Longest same n word i
  longest_carries m n t u word i l = record {
    within = l.within;
    begins = (l.begins.0, word_carries m n t u _ l.begins.1);
    most = λ k le b. l.most k le (b.0, word_carries n m u t _ b.1);
  }

  trial_carries : (m n : Model S) → TablesOf same s rows xs m → TablesOf same s rows xs n → (word : List S) (v : Trial) → TrialTold same m word v → TrialTold same n word v
  trial_carries m n t u word Yes d = word_carries m n t u word d
  trial_carries m n t u word (No i) d = ((λ w. d.0 (word_carries n m u t word w)), longest_carries m n t u word i d.1)

  takes_carries : (m n : Model S) → TablesOf same s rows xs m → TablesOf same s rows xs n → (r : Table S) → TakesJust same (Some m) r → TakesJust same (Some n) r
  takes_carries m n t u r d word = ((λ h. word_carries m n t u word ((d word).0 h)), (λ w. (d word).1 (word_carries n m u t word w)))

  agree : (m n : Model S) → TablesOf same s rows xs m → TablesOf same s rows xs n → Agree same m n
  agree m n t u = record {
    symbols = same_symbols m n t u;
    marked = λ w. (marked_carries m n t u w, marked_carries n m u t w);
    words = λ v. (word_carries m n t u v, word_carries n m u t v);
    trials = λ word v. (trial_carries m n t u word v, trial_carries n m u t word v);
    readers = λ r. (takes_carries m n t u r, takes_carries n m u t r);
  }

module _ {S : Type 0} (same : S → S → Bool) {foreign : S → Bool} (laws : KindLaws same foreign) where
  held_once : (found : Option Summary) (ss : List S) (ns : List ℕ) (p : ℕ) (k l : Option (Model S)) → HoldsAt same found ss ns p k → HoldsAt same found ss ns p l → OneOf same k l
  held_once None ss ns p None None h g = tt
  held_once None ss ns p None (Some n) h g = absurd g
  held_once None ss ns p (Some m) l h g = absurd h
  held_once (Some t) ss ns p None l h g = absurd h
  held_once (Some t) ss ns p (Some m) None h g = absurd g
  held_once (Some t) ss ns p (Some m) (Some n) h g = agree same laws t.sets (front ns p t.count) (front ss p t.count) m n h.1.tables g.1.tables

  pub one_content : OneContent same
  one_content s p k l h g = held_once (record_at s.shelf p) s.symbols s.numbers p k l h g
