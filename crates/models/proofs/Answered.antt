-- Each call has one answer, and leaves its list with one content.
use Rattle.std.proofs.Common.{◌≡◌, ℕ, ◌+◌, ◌<◌, Bool, List, ◌++◌, length, get_or, take, drop, Some, None, Ok, Err, Option, Result, sym, refl, ap, ◌∙◌, arith}
use Rattle.std.proofs.lemmas.List.{ext_get_or}
use Rattle.std.proofs.lemmas.Bool.Decides.{same_from_decides}
use Rattle.faults.specs.declared.Fault.{Fault}
use Rattle.faults.specs.declared.Fault.TheVariants.{Ambiguous}
use Rattle.codes.proofs.Answered.{one_refusal, not_refused}
use Rattle.language.specs.Words.{Expr, Begins, Ends, Follows}
use Rattle.language.specs.Meaning.{Model, Formed, Longest, Unambiguous, LeastCompeting}
use Rattle.models.specs.declared.tables.Sets.{Sets}
use Rattle.models.specs.declared.pairs.Pair.{Pair}
use Rattle.models.specs.declared.trials.Trial.{Trial}
use Rattle.models.specs.declared.trials.Trial.TheVariants.{Yes, No}
use Rattle.models.specs.TablesOf.{SetsOf, Made}
use Rattle.models.specs.Stepping.{Steps}
use Rattle.models.specs.Told.{SetsTold, PairTold, Flawed, refused, ambiguous, StudyTold, TrialTold}
use Rattle.models.specs.Theorems.{OneAnswer}
use Rattle.models.proofs.Bitsets.{same_set}

-- the sets of one tree are one
module _ (n : ℕ) (e : Expr) (s t : Sets) (us vs : List ℕ) (p : SetsOf s us n e) (q : SetsOf t vs n e) where
  same_sets : s ≡ t
  same_sets =
      let make : Bool → ℕ → ℕ → Sets = λ b f l. record { nullable = b; first = f; last = l } in
      let b : s.nullable ≡ t.nullable = same_from_decides s.nullable t.nullable p.null q.null in
      let f : s.first ≡ t.first = same_set n s.first t.first (Begins e) p.first_within q.first_within p.begin q.begin in
      let l : s.last ≡ t.last = same_set n s.last t.last (Ends e) p.last_within q.last_within p.end q.end in
      ap (λ x. make x s.first s.last) b ∙ ap (λ x. make t.nullable x s.last) f ∙ ap (make t.nullable t.first) l

  same_rows : length us ≡ n → length vs ≡ n → us ≡ vs
  same_rows h k =
      ext_get_or 0 us vs (h ∙ sym k) (λ x lt.
      let l : x < n = omega arith in
      same_set n (get_or us x 0) (get_or vs x 0) (Follows e (x + 1)) (p.row_within x l) (q.row_within x l) (p.follow x l) (q.follow x l))

one_made : (n : ℕ) (e : Expr) (old : List ℕ) (s t : Sets) (a b : List ℕ) → Made s n e old a → Made t n e old b → (s ≡ t) × (a ≡ b)
one_made n e old s t a b p q =
    let rows = same_rows n e s t p.rows q.rows p.sets q.sets p.even q.even in (
      same_sets n e s t p.rows q.rows p.sets q.sets,
      p.after ∙ ap (λ l. take (length old) l ++ drop n old) rows ∙ sym q.after,
    )

one_sets : (n : ℕ) (cs old : List ℕ) (r t : Result Sets Fault) (a b : List ℕ) → SetsTold n cs r old a → SetsTold n cs t old b → (r ≡ t) × (a ≡ b)
one_sets n cs old (Ok r) (Ok t) a b p q = let h = one_made n _ old r t a b p.1 q.1 in (ap Ok h.0, h.1)
one_sets n cs old (Ok r) (Err t) a b p q = absurd (not_refused n cs t p.0 q.0)
one_sets n cs old (Err r) (Ok t) a b p q = absurd (not_refused n cs r q.0 p.0)
one_sets n cs old (Err r) (Err t) a b p q = (ap Err (one_refusal n cs r t p.0 q.0), p.1 ∙ sym q.1)

module _ {S : Type 0} (same : S → S → Bool) (m : Model S) where
  one_least : (x y u v : ℕ) → LeastCompeting same m x y → LeastCompeting same m u v → (x ≡ u) × (y ≡ v)
  one_least x y u v p q =
      let a = p.least u v q.rising q.compete in
      let b = q.least x y p.rising p.compete in
      (omega (arith, a, b), omega (arith, a, b))

  one_pair : (r t : Result (Option Pair) Fault) → PairTold same m r → PairTold same m t → r ≡ t
  one_pair (Ok None) (Ok None) p q = refl
  one_pair (Ok None) (Ok (Some t)) p q = absurd (p.1 t.first t.second q.1.compete)
  one_pair (Ok None) (Err t) p q = absurd (not_refused _ _ t p.0 q)
  one_pair (Ok (Some r)) (Ok None) p q = absurd (q.1 r.first r.second p.1.compete)
  one_pair (Ok (Some r)) (Ok (Some t)) p q =
      let h = one_least r.first r.second t.first t.second p.1 q.1 in
      let make : ℕ → ℕ → Pair = λ x y. record { first = x; second = y } in
      ap (λ x. Ok (Some (make x r.second))) h.0 ∙ ap (λ y. Ok (Some (make t.first y))) h.1
  one_pair (Ok (Some r)) (Err t) p q = absurd (not_refused _ _ t p.0 q)
  one_pair (Err r) (Ok None) p q = absurd (not_refused _ _ r q.0 p)
  one_pair (Err r) (Ok (Some t)) p q = absurd (not_refused _ _ r q.0 p)
  one_pair (Err r) (Err t) p q = ap Err (one_refusal _ _ r t p q)

  one_flaw : (f g : Fault) → Flawed same m f → Flawed same m g → f ≡ g
  one_flaw f g (refused p) (refused q) = one_refusal _ _ f g p q
  one_flaw f g (refused p) (ambiguous w q) = absurd (not_refused _ _ f w p)
  one_flaw f g (ambiguous w p) (refused q) = absurd (not_refused _ _ g w q)
  one_flaw f g (ambiguous {x} {y} w p) (ambiguous {x = u} {y = v} z q) =
      let h = one_least x y u v p q in ap (λ i. Ambiguous i y) h.0 ∙ ap (Ambiguous u) h.1

  not_flawed : (f : Fault) → Formed m → Unambiguous same m → Flawed same m f → ⊥
  not_flawed f w c (refused p) = not_refused _ _ f w p
  not_flawed f w c (ambiguous {x} {y} z p) = c x y p.compete

  one_study : (old : List ℕ) (r t : Result Sets Fault) (a b : List ℕ) → StudyTold same m r old a → StudyTold same m t old b → (r ≡ t) × (a ≡ b)
  one_study old (Ok r) (Ok t) a b p q = let h = one_made _ _ old r t a b p.made q.made in (ap Ok h.0, h.1)
  one_study old (Ok r) (Err t) a b p q = absurd (not_flawed t p.formed p.clear q.0)
  one_study old (Err r) (Ok t) a b p q = absurd (not_flawed r q.formed q.clear p.0)
  one_study old (Err r) (Err t) a b p q = (ap Err (one_flaw r t p.0 q.0), p.1 ∙ sym q.1)

  one_longest : (word : List S) (i j : ℕ) → Longest same m word i → Longest same m word j → i ≡ j
  one_longest word i j p q =
      let a = q.most i p.within p.begins in
      let b = p.most j q.within q.begins in
      omega arith

  one_trial : (word : List S) (r t : Trial) → TrialTold same m word r → TrialTold same m word t → r ≡ t
  one_trial word Yes Yes p q = refl
  one_trial word Yes (No j) p q = absurd (q.0 p)
  one_trial word (No i) Yes p q = absurd (p.0 q)
  one_trial word (No i) (No j) p q = ap No (one_longest word i j p.1 q.1)

one_step : {S : Type 0} (same : S → S → Bool) (s : Sets) (rows : List ℕ) (xs : List S) (x : ℕ) (a : S) (r t : Option ℕ)
    → Steps same s rows xs x a r → Steps same s rows xs x a t → r ≡ t
one_step same s rows xs x a None None p q = refl
one_step same s rows xs x a None (Some z) p q = absurd (p z q.0)
one_step same s rows xs x a (Some y) None p q = absurd (q y p.0)
one_step same s rows xs x a (Some y) (Some z) p q =
    let h = p.1 z q.0 in
    let k = q.1 y p.0 in
    let e : y ≡ z = omega arith in
    ap Some e

pub one_answer : {S : Type 0} (same : S → S → Bool) → OneAnswer same
one_answer same = record {
  sets = one_sets;
  competing = one_pair same;
  study = one_study same;
  step = one_step same;
  trial = one_trial same;
}
