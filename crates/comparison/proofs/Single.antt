-- One call, by a list of one call. Assumes nothing.
use Rattle.std.proofs.Common.{◌≡◌, ℕ, Bool, true, List, [], ◌∷◌, length, get_or, take, Ok, Err, Result, sym, refl, ap, subst, arith}
use Rattle.std.specs.Result.{is_ok}
use Rattle.std.proofs.lemmas.Bool.{false≢true}
use Rattle.shelf.specs.Places.{has}
use Rattle.comparison.specs.Answers.{Reply}
use Rattle.comparison.specs.declared.calls.Answer.TheVariants as answer
use Rattle.comparison.specs.declared.calls.TooFewAnswers.{TooFewAnswers}
use Rattle.comparison.specs.Runs.{Request, Memory, Plain, place_of, step, Did, Run, none, more, Says, Lives, rests, calls, Matches, Replayed, Replays, Made}

-- the one answer stands first
first_answer : (new : List Reply) (a : Reply) → take 1 new ≡ a ∷ [] → a ≡ get_or new 0 (Ok answer.Done)
first_answer [] a e = let z : ◌≡◌ {A = ℕ} 0 1 = cc in absurd (omega arith)
first_answer (b ∷ new) a e = cc

module _ {S : Type 0} (same : S → S → Bool) where
  -- a run of one call
  run_one : (s u : Memory S) (ask : Request S) (rs : List Reply) → Run same s (ask ∷ []) rs u → (a : Reply) × (rs ≡ a ∷ []) × Did same s ask a u
  run_one s u ask rs (more {r = r} d none) = (r, refl, d)

  -- the plain shelf over no call, and over one, after which it is over
  rests_one : (places : ℕ → Bool) (work : ℕ) (plain after : Plain S) (word word' : List ℕ) (rs : List Reply) → Lives same places work plain word [] rs after word' → (rs ≡ []) × (after ≡ plain) × (word' ≡ word)
  rests_one places work plain after word word' rs rests = (refl, refl, refl)

  lives_one : (places : ℕ → Bool) (work : ℕ) (plain after : Plain S) (word word' : List ℕ) (ask : Request S) (rs : List Reply)
      → Lives same places work plain word (ask ∷ []) rs after word'
      → (a : Reply) × (rs ≡ a ∷ []) × Says same places work ask (plain (place_of ask)) word a word' × (after ≡ step ask a plain)
  lives_one places work plain after word word' ask rs (calls {word' = v} {r = r} {rs = qs} s l) =
      let z = rests_one places work (step ask r plain) after v word' qs l in
      (r, ap (λ (t : List Reply). r ∷ t) z.0, subst (Says same places work ask (plain (place_of ask)) word r) (sym z.2) s, z.1)

  module _ (s u : Memory S) (ask : Request S) (old new : List Reply) where
    abbrev a : Reply
    a = get_or new 0 (Ok answer.Done)

    one_says : Replayed same s (ask ∷ []) old new u → (plain : Plain S) → Matches same s plain → Says same (has s.base) (length s.work) ask (plain (place_of ask)) s.word a u.word × Matches same u (step ask a plain)
    one_says r plain m =
        let g = r.agrees plain m in
        let l = lives_one (has s.base) (length s.work) plain g.after s.word u.word ask (take 1 new) g.lives in
        let f = first_answer new l.0 l.1 in (
          subst (λ b. Says same (has s.base) (length s.work) ask (plain (place_of ask)) s.word b u.word) f l.2,
          subst (λ b. Matches same u (step ask b plain)) f (subst (Matches same u) l.3 g.holds),
        )

    one_did : Replayed same s (ask ∷ []) old new u → Did same s ask a u
    one_did r =
        let l = run_one s u ask (take 1 new) r.ran in
        subst (λ b. Did same s ask b u) (first_answer new l.0 l.1) l.2

    -- a replay that is done
    done_replayed : (done : Result (Unit {0}) TooFewAnswers) (asks : List (Request S)) → is_ok done ≡ true → Replays same done s asks old new u → Replayed same s asks old new u
    done_replayed (Ok x) asks p r = r
    done_replayed (Err f) asks p r = absurd (false≢true p)

    pub made : (done : Result (Unit {0}) TooFewAnswers) (asks : List (Request S)) → is_ok done ≡ true → asks ≡ ask ∷ [] → Replays same done s asks old new u → Made same s ask a u
    made done asks p q r =
        let h : Replayed same s (ask ∷ []) old new u = subst (λ l. Replayed same s l old new u) q (done_replayed done asks p r) in
        record { did = one_did h; agrees = one_says h }
