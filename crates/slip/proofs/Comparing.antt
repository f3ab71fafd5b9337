-- A comparison of two places of a desk. Assumes nothing.
use Rattle.std.proofs.Common.{◌≡◌, ℕ, ◌+◌, ◌≤◌, Bool, true, false, cond, eqb, List, length, drop, Some, Option, Result, sym, refl, ◌∙◌, subst, mul-le-mul, arith, None}
use Rattle.std.specs.List.{slice_get}
use Rattle.std.proofs.lemmas.List.{take_at}
use Rattle.faults.specs.declared.Fault.{Fault}
use Rattle.symbols.specs.NameRows.{name_same}
use Rattle.symbols.specs.declared.name_rows.NameRow.{NameRow}
use Rattle.language.specs.Meaning.{Model, Formed}
use Rattle.tables.specs.Tables.{Table}
use Rattle.product.specs.Compares.{pairs, CompareSays, little_work, little_word, included, missed}
use Rattle.shelf.specs.declared.records.Summary.{Summary}
use Rattle.shelf.specs.Places.{room, has, Holds, HoldsAt}
use Rattle.shelf.specs.Calls.{TakesJust, states_of}
use Rattle.comparison.specs.Answers.{Reply}
use Rattle.comparison.specs.Compares.{CompareEnds}
use Rattle.comparison.specs.Runs.{compares, answer_of_compare}
use Rattle.verdicts.proofs.Compared.{taken_included, astray_missed}
use Rattle.slip.specs.declared.desks.Desk.{Desk}
use Rattle.slip.specs.Desks.{Models, memory_of, Has, Called, OfVerdict, answer_of, Found}

-- a place that holds a model is there, and the model is well-formed
holds_there : (found : Option Summary) (ss : List NameRow) (ns : List ℕ) (p : ℕ) (m : Model NameRow) → HoldsAt name_same found ss ns p (Some m) → (room (length ss) (length ns) p ≡ true) × Formed m
holds_there None ss ns p m h = absurd h
holds_there (Some k) ss ns p m h = (h.0, h.1.tables.formed)

module _ (d : Desk) (ms : Models) (h : Has d ms) where
  -- a place holds the model of its number
  pub stands_at : (p : ℕ) (m : Model NameRow) → slice_get ms p ≡ Some m → Holds name_same (memory_of d).base p (Some m)
  stands_at p m e = subst (Holds name_same (memory_of d).base p) e (h.holds p)

  pub formed_at : (p : ℕ) (m : Model NameRow) → slice_get ms p ≡ Some m → (has (memory_of d).base p ≡ true) × Formed m
  formed_at p m e = holds_there _ _ _ p m (stands_at p m e)

cond_same : {X : Type 0} (b : Bool) (x : X) → cond b x x ≡ x
cond_same true x = refl
cond_same false x = refl

module _ (d : Desk) (ms : Models) (h : Has d ms) (first second : ℕ) (m n : Model NameRow) (p : slice_get ms first ≡ Some m) (q : slice_get ms second ≡ Some n) (t : Table NameRow)
    (takes : (k : Option (Model NameRow)) → Holds name_same (memory_of d).base second k → TakesJust name_same k t)
    (states : (k : Option (Model NameRow)) → Holds name_same (memory_of d).base second k → t.states ≡ states_of k) where
  -- the lists have room
  few : pairs t m ≤ 4290
  few =
      let F = (formed_at d ms h first m p).1 in
      let G = (formed_at d ms h second n q).1 in
      let s : t.states ≡ length n.symbols + 1 = states (Some n) (stands_at d ms h second n q) in
      let a : length m.symbols + 1 ≤ 65 = omega (arith, F.few) in
      let b : t.states + 1 ≤ 66 = omega (arith, G.few) in
      mul-le-mul a b

  of_says : (r : Result (Option ℕ) Fault) (word' : List ℕ) → CompareSays name_same t m (length d.work) d.word r word' → OfVerdict (answer_of_compare r)
  of_says r word' (little_work l) = omega (arith, few, h.roomy.work)
  of_says r word' (little_word l k) = omega (arith, few, h.roomy.word)
  of_says r word' (included l k f) = tt
  of_says r word' (missed l k f) = tt

  told : (r : Result (Option ℕ) Fault) (word' : List ℕ) → CompareSays name_same t m (length d.work) d.word r word' → (v : Option ℕ) → answer_of_compare r ≡ answer_of v → Found m n v word'
  told r word' (little_work l) v e = absurd (omega (arith, few, h.roomy.work))
  told r word' (little_word l k) v e = absurd (omega (arith, few, h.roomy.word))
  told r word' (included l k f) None e = taken_included name_same t n (takes (Some n) (stands_at d ms h second n q)) m f
  told r word' (included l k f) (Some i) e = let z : ◌≡◌ {A = ℕ} 0 1 = cc in absurd (omega arith)
  told r word' (missed {w = w} l k f) None e = let z : ◌≡◌ {A = ℕ} 0 1 = cc in absurd (omega arith)
  told r word' (missed {w = w} l k f) (Some i) e =
      let z : i ≡ length w = cc in
      (w, astray_missed name_same t n (takes (Some n) (stands_at d ms h second n q)) m w f, z, take_at w (drop (length w) d.word) i (sym z))

  module _ (e : Desk) (a : Reply) (c : Called d (compares first t) a e) where
    says : (r : Result (Option ℕ) Fault) × (a ≡ answer_of_compare r) × CompareSays name_same t m (length d.work) d.word r e.word
    says =
        let s = (c.agrees (slice_get ms) h.holds).0 in
        let b = (formed_at d ms h first m p).0 in (
          s.0,
          s.1,
          subst (λ k. CompareEnds name_same t true first k (length d.work) d.word s.0 e.word) p
              (subst (λ (i : Bool). CompareEnds name_same t i first (slice_get ms first) (length d.work) d.word s.0 e.word) b s.2),
        )

    pub of_verdict : OfVerdict a
    of_verdict = let s = says in subst OfVerdict (sym s.1) (of_says s.0 e.word s.2)

    pub finds : (v : Option ℕ) → a ≡ answer_of v → Found m n v e.word × Has e ms
    finds v f =
        let s = says in (
          told s.0 e.word s.2 v (sym s.1 ∙ f),
          record {
            roomy = c.roomy h.roomy;
            holds = λ i. subst (Holds name_same (memory_of e).base i) (cond_same (eqb i first) (slice_get ms i)) ((c.agrees (slice_get ms) h.holds).1 i);
          },
        )
