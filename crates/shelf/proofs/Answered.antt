-- Each call has one answer, and leaves one state. Assumes nothing.
use Rattle.std.proofs.Common.{◌≡◌, ℕ, Bool, true, false, List, [], ◌++◌, length, get_or, drop, Some, None, Ok, Err, Option, Result, sym, refl, ap, ◌∙◌, subst, ⊎_elim, arith, is_some}
use Rattle.std.proofs.lemmas.List.{take_all, drop_all, append-nil}
use Rattle.std.proofs.lemmas.Bool.{cases_eq}
use Rattle.faults.specs.declared.Fault.{Fault}
use Rattle.language.specs.Words.{Expr}
use Rattle.language.specs.Meaning.{Model, body, Formed, Unambiguous}
use Rattle.models.specs.declared.tables.Sets.{Sets}
use Rattle.models.specs.declared.trials.Trial.{Trial}
use Rattle.models.specs.TablesOf.{SetsOf, Made}
use Rattle.models.specs.Told.{Flawed, refused, ambiguous}
use Rattle.models.proofs.Answered.{one_answer}
use Rattle.shelf.specs.declared.records.Summary.{Summary}
use Rattle.shelf.specs.Places.{State, placed, record_at, has, HoldsAt}
use Rattle.shelf.specs.Calls.{Done, Judges, LoadEnds, Unchanged, Freed, Put, WithdrawWrites, LoadWrites, TriesAt}
use Rattle.shelf.specs.Theorems.{SameRecord, SameState, OneAnswer}
use Rattle.shelf.proofs.Refining.{ok_err}

made_own : (s : Sets) (n : ℕ) (e : Expr) (rows old : List ℕ) → length rows ≡ n → length old ≡ n → SetsOf s rows n e → Made s n e old rows
made_own s n e rows old h k d = record {
  rows = rows;
  even = h;
  sets = d;
  after = sym (ap (λ l. l ++ drop n old) (take_all (length old) rows (omega arith)) ∙ ap (λ l. rows ++ l) (drop_all n old (omega arith)) ∙ append-nil rows);
}

module _ {S : Type 0} (same : S → S → Bool) where
  not_flawed : (m : Model S) (f : Fault) → Formed m → Unambiguous same m → Flawed same m f → ⊥
  not_flawed m f w c (refused h) = let e = (one_answer same).competing m (Ok None) (Err f) (w, c) h in let z : ◌≡◌ {A = ℕ} 0 1 = cc in omega arith
  not_flawed m f w c (ambiguous {x} {y} z h) = c x y h.compete

  one_flaw : (m : Model S) (f g : Fault) → Flawed same m f → Flawed same m g → f ≡ g
  one_flaw m f g h k = let e = ((one_answer same).study m [] (Err f) (Err g) [] [] (h, refl) (k, refl)).0 in cc

  one_judgement : (m : Model S) (r q : Done) → Judges same m r → Judges same m q → r ≡ q
  one_judgement m (Ok u) (Ok v) h k = refl
  one_judgement m (Ok u) (Err g) h k = absurd (not_flawed m g h.0 h.1 k)
  one_judgement m (Err f) (Ok v) h k = absurd (not_flawed m f k.0 k.1 h)
  one_judgement m (Err f) (Err g) h k = ap Err (one_flaw m f g h k)

  one_end : (here full : Bool) (p : ℕ) (m : Model S) (r q : Done) → LoadEnds same here full p m r → LoadEnds same here full p m q → r ≡ q
  one_end false full p m r q h k = h ∙ sym k
  one_end true true p m r q h k = h ∙ sym k
  one_end true false p m r q h k = one_judgement m r q h k

  own_record : (found : Option Summary) → SameRecord same found found
  own_record None = tt
  own_record (Some t) = (refl, refl)

  equal_records : (x y : Option Summary) → x ≡ y → SameRecord same x y
  equal_records x y e = subst (SameRecord same x) e (own_record x)

  -- the same record at p, and the others as they were
  by_place : (s t u : State S) (p : ℕ) → SameRecord same (record_at t.shelf p) (record_at u.shelf p)
      → ((q : ℕ) → (q ≡ p → ⊥) → record_at t.shelf q ≡ record_at s.shelf q) → ((q : ℕ) → (q ≡ p → ⊥) → record_at u.shelf q ≡ record_at s.shelf q)
      → (q : ℕ) → SameRecord same (record_at t.shelf q) (record_at u.shelf q)
  by_place s t u p here f g q =
      ⊎_elim (λ e. subst (λ x. SameRecord same (record_at t.shelf x) (record_at u.shelf x)) (sym e) here) (λ ne. equal_records _ _ (f q ne ∙ sym (g q ne))) (cases_eq q p)

  unchanged_once : (s t u : State S) → Unchanged s t → Unchanged s u → SameState same t u
  unchanged_once s t u h k = record {
    shelf = λ q. equal_records _ _ (ap (λ l. get_or l q None) (h.shelf ∙ sym k.shelf));
    symbols = h.symbols ∙ sym k.symbols;
    numbers = h.numbers ∙ sym k.numbers;
  }

  freed_once : (s t u : State S) (p : ℕ) → Freed s p t → Freed s p u → SameState same t u
  freed_once s t u p h k = record {
    shelf = by_place s t u p (equal_records _ _ (h.here ∙ sym k.here)) h.others k.others;
    symbols = h.symbols ∙ sym k.symbols;
    numbers = h.numbers ∙ sym k.numbers;
  }

  put_once : (s t u : State S) (p : ℕ) (m : Model S) → Put same s p m t → Put same s p m u → SameState same t u
  put_once s t u p m h k =
      let n = length m.symbols in
      let f = h.tells.tables in
      let g = k.tells.tables in
      let one = (one_answer same).sets n m.codes h.followers (Ok h.kept.sets) (Ok k.kept.sets) h.followers k.followers
      (f.formed, made_own h.kept.sets n (body m) h.followers h.followers h.even h.even f.sets)
      (g.formed, made_own k.kept.sets n (body m) k.followers h.followers k.even h.even g.sets) in
      let sets : h.kept.sets ≡ k.kept.sets = let e = one.0 in cc in
      let here : SameRecord same (Some h.kept) (Some k.kept) = (h.tells.count ∙ sym k.tells.count, sets) in
      record {
        shelf = by_place s t u p (subst (λ x. SameRecord same x (record_at u.shelf p)) (sym h.here) (subst (SameRecord same (Some h.kept)) (sym k.here) here)) h.others k.others;
        symbols = h.symbols ∙ sym k.symbols;
        numbers = h.numbers ∙ ap (placed s.numbers p) one.1 ∙ sym k.numbers;
      }

  loaded_once : (s t u : State S) (p : ℕ) (m : Model S) (r q : Done) → r ≡ q → LoadWrites same s p m r t → LoadWrites same s p m q u → SameState same t u
  loaded_once s t u p m (Ok x) (Ok y) e h k = put_once s t u p m h k
  loaded_once s t u p m (Ok x) (Err g) e h k = absurd (ok_err x g e)
  loaded_once s t u p m (Err f) (Ok y) e h k = absurd (ok_err y f (sym e))
  loaded_once s t u p m (Err f) (Err g) e h k = unchanged_once s t u h k

  withdrawn_once : (s t u : State S) (p : ℕ) (r q : Done) → r ≡ q → WithdrawWrites s p r t → WithdrawWrites s p q u → SameState same t u
  withdrawn_once s t u p (Ok x) (Ok y) e h k = freed_once s t u p h k
  withdrawn_once s t u p (Ok x) (Err g) e h k = absurd (ok_err x g e)
  withdrawn_once s t u p (Err f) (Ok y) e h k = absurd (ok_err y f (sym e))
  withdrawn_once s t u p (Err f) (Err g) e h k = unchanged_once s t u h k

  tried_once : (here : Bool) (found : Option Summary) (p : ℕ) (ss : List S) (ns : List ℕ) (word : List S) (k : Option (Model S)) (r q : Result Trial Fault)
      → HoldsAt same found ss ns p k → TriesAt same here found p ss ns word r → TriesAt same here found p ss ns word q → r ≡ q
  tried_once false found p ss ns word k r q h f g = f ∙ sym g
  tried_once true None p ss ns word k r q h f g = f ∙ sym g
  tried_once true (Some t) p ss ns word None r q h f g = absurd h
  tried_once true (Some t) p ss ns word (Some m) (Ok v) (Ok w) h f g = ap Ok ((one_answer same).trial m word v w (f m h.1.tables) (g m h.1.tables))
  tried_once true (Some t) p ss ns word (Some m) (Ok v) (Err y) h f g = absurd g
  tried_once true (Some t) p ss ns word (Some m) (Err x) q h f g = absurd f

  pub one_call : OneAnswer same
  one_call = record {
    loads = λ s t u p m r q h k. let e = one_end (has s p) (is_some (record_at s.shelf p)) p m r q h.ends k.ends in (e, loaded_once s t u p m r q e h.writes k.writes);
    withdraws = λ s t u p r q h k. let e = h.ends ∙ sym k.ends in (e, withdrawn_once s t u p r q e h.writes k.writes);
    tries = λ s p word k r q h f g. tried_once (has s p) (record_at s.shelf p) p s.symbols s.numbers word k r q h f g;
  }
