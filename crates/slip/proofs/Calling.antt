-- One call on a desk, by a list of one call. Assumes nothing.
use Rattle.std.proofs.Common.{◌≡◌, ℕ, ◌+◌, ◌*◌, ◌<◌, true, false, cond, eqb, List, [], ◌∷◌, ◌++◌, length, get_or, is_some, Some, Ok, Err, Result, sym, refl, ap, ◌∙◌, subst, inl, inr, arith}
use Rattle.std.specs.List.{slice_get}
use Rattle.std.specs.Result.{is_ok}
use Rattle.std.proofs.lemmas.Option.{slice_get_past, slice_get-get_or}
use Rattle.std.proofs.lemmas.List.{length_push, get_or_push, get_or_append_left}
use Rattle.std.proofs.lemmas.Bool.{cases_order, eq-eqb, ne_eqb, lt-ltb, le-leb, and_from, cond-true, cond-false}
use Rattle.symbols.specs.NameRows.{name_same}
use Rattle.symbols.specs.declared.name_rows.NameRow.{NameRow}
use Rattle.language.specs.Meaning.{Model}
use Rattle.shelf.specs.Places.{has, Holds}
use Rattle.shelf.specs.Calls.{Done, Judges, LoadEnds}
use Rattle.comparison.specs.declared.calls.TooFewAnswers.{TooFewAnswers}
use Rattle.comparison.specs.Answers.{Reply}
use Rattle.comparison.specs.declared.calls.Answer.{Answer}
use Rattle.comparison.specs.declared.calls.Answer.TheVariants as answer
use Rattle.comparison.specs.Runs.{Request, loads, Memory, answer_of_done, step, when_done, Did, load, Replays}
use Rattle.comparison.proofs.Single.{made}
use Rattle.slip.specs.declared.desks.Desk.{Desk}
use Rattle.slip.specs.Desks.{Models, memory_of, Roomy, Has, Called, OfLoad, Next, Puts}

pub called : (d e : Desk) (ask : Request NameRow) (old new : List Reply) → (Roomy d → Roomy e) → (done : Result (Unit {0}) TooFewAnswers) (asks : List (Request NameRow)) → is_ok done ≡ true → asks ≡ ask ∷ []
    → Replays name_same done (memory_of d) asks old new (memory_of e) → Called d ask (get_or new 0 (Ok answer.Done)) e
called d e ask old new k done asks p q r =
    let h = made name_same (memory_of d) (memory_of e) ask old new done asks p q r in
    record { did = h.did; agrees = h.agrees; roomy = k }

did_load : (s u : Memory NameRow) (p : ℕ) (m : Model NameRow) (a : Reply) → Did name_same s (loads p m) a u → OfLoad a
did_load s u p m a (load (Ok t) l) = tt
did_load s u p m a (load (Err f) l) = tt

pub of_load : (s u : Memory NameRow) (p : ℕ) (m : Model NameRow) (ask : Request NameRow) (a : Reply) → ask ≡ loads p m → Did name_same s ask a u → OfLoad a
of_load s u p m ask a e l = did_load s u p m a (subst (λ k. Did name_same s k a u) e l)

-- a load that was not refused is done
pub load_done : (a : Reply) (x : Answer) → OfLoad a → a ≡ Ok x → a ≡ answer_of_done (Ok tt)
load_done (Ok answer.Done) x o e = refl
load_done (Ok answer.Yes) x o e = absurd o
load_done (Ok (answer.No n)) x o e = absurd o
load_done (Ok answer.Included) x o e = absurd o
load_done (Ok (answer.Missed n)) x o e = absurd o
load_done (Err f) x o e = let z : ◌≡◌ {A = ℕ} 0 1 = cc in absurd (omega arith)

-- one more model stands at the next place
nth_push : (ms : Models) (m : Model NameRow) (q : ℕ) → cond (eqb q (length ms)) (Some m) (slice_get ms q) ≡ slice_get (ms ++ m ∷ []) q
nth_push ms m q = elim (cases_order q (length ms)) [
  | inl e ↦
      let l = length_push ms m in
      cond-true (eqb q (length ms)) (Some m) (slice_get ms q) (eq-eqb q (length ms) e) ∙ sym (slice_get-get_or (ms ++ m ∷ []) q m (omega arith) ∙ ap Some (get_or_push ms m m q (sym e)))
  | inr (inl h) ↦
      let l = length_push ms m in
      cond-false (eqb q (length ms)) (Some m) (slice_get ms q) (ne_eqb q (length ms) (λ z. omega arith)) ∙ slice_get-get_or ms q m h ∙ sym (slice_get-get_or (ms ++ m ∷ []) q m (omega arith) ∙ ap Some (get_or_append_left ms (m ∷ []) m q h))
  | inr (inr h) ↦
      let l = length_push ms m in
      cond-false (eqb q (length ms)) (Some m) (slice_get ms q) (ne_eqb q (length ms) (λ z. omega arith)) ∙ slice_get_past ms q (omega arith) ∙ sym (slice_get_past (ms ++ m ∷ []) q (omega arith))
]

-- each of the sixteen places is there
pub there : (d : Desk) (p : ℕ) → Roomy d → p < 16 → has (memory_of d).base p ≡ true
there d p r h =
    and_from _ _ (lt-ltb p 16 h) (and_from _ _ (le-leb (p * 64 + 64) (length d.symbols) (omega (arith, r.symbols))) (le-leb (p * 64 + 64) (length d.numbers) (omega (arith, r.numbers))))

same_done : (q r : Done) → answer_of_done q ≡ answer_of_done r → q ≡ r
same_done (Ok u) (Ok v) e = refl
same_done (Ok u) (Err f) e = let z : ◌≡◌ {A = ℕ} 0 1 = cc in absurd (omega arith)
same_done (Err f) (Ok v) e = let z : ◌≡◌ {A = ℕ} 0 1 = cc in absurd (omega arith)
same_done (Err f) (Err g) e = cc

module _ (d e : Desk) (ms : Models) (place : ℕ) (m : Model NameRow) (ask : Request NameRow) (a : Reply) (h : Has d ms) (n : Next ms place) (asked : ask ≡ loads place m) (made : Called d ask a e) where
  c : Called d (loads place m) a e
  c = subst (λ k. Called d k a e) asked made

  judged : (r : Done) → a ≡ answer_of_done r → Judges name_same m r
  judged r f =
      let s = (c.agrees (slice_get ms) h.holds).0.1 in
      let z : s.0 ≡ r = same_done s.0 r (sym s.1 ∙ f) in
      let i : is_some (slice_get ms place) ≡ false = ap is_some (slice_get_past ms place (omega (arith, n.0))) in
      subst (Judges name_same m) z (subst (λ b. LoadEnds name_same b false place m s.0) (there d place h.roomy n.1) (subst (λ b. LoadEnds name_same (has (memory_of d).base place) b place m s.0) i s.2))

  stands : a ≡ Ok answer.Done → Has e (ms ++ m ∷ [])
  stands f = record {
    roomy = c.roomy h.roomy;
    holds = λ q.
        let k : Holds name_same (memory_of e).base q (step (loads place m) a (slice_get ms) q) = (c.agrees (slice_get ms) h.holds).1 q in
        let z : step (loads place m) a (slice_get ms) q ≡ slice_get (ms ++ m ∷ []) q =
        ap (λ b. cond (eqb q place) (when_done b (Some m) (slice_get ms q)) (slice_get ms q)) f ∙ ap (λ p. cond (eqb q p) (Some m) (slice_get ms q)) (sym n.0) ∙ nth_push ms m q in
        subst (Holds name_same (memory_of e).base q) z k;
  }

  pub puts : (r : Done) → a ≡ answer_of_done r → Puts ms m r e
  puts (Ok u) f = (judged (Ok u) f, stands f)
  puts (Err g) f = judged (Err g) f
