-- Any list of calls agrees with the plain shelf. Assumes nothing.
use Rattle.std.proofs.Common.{◌≡◌, ℕ, ◌+◌, ◌<◌, ◌≤◌, Bool, true, false, cond, eqb, leb, List, [], ◌∷◌, ◌++◌, map, length, get_or, take, drop, set, Some, None, Ok, Err, Option, sym, refl, ap, ◌∙◌, subst, arith}
use Rattle.std.proofs.lemmas.List.{length-map, take_all, map_more, take_more_set}
use Rattle.std.proofs.lemmas.Bool.{leb-false}
use Rattle.symbols.specs.Kinds.{KindLaws}
use Rattle.language.specs.Meaning.{Model}
use Rattle.shelf.specs.declared.shelves.Shelf.{Shelf}
use Rattle.shelf.specs.Places.{room, has, Holds}
use Rattle.shelf.specs.Calls.{Done, after_load, after_withdraw}
use Rattle.shelf.proofs.Refining.{load_refines, withdraw_refines, try_refines}
use Rattle.comparison.specs.declared.calls.TooFewAnswers.{TooFewAnswers}
use Rattle.comparison.specs.Answers.{Reply}
use Rattle.comparison.specs.Runs.{Request, place_of, answer_of_done, Memory, Lists, lent, Did, load, withdraw, try, compare, Run, none, more, Plain, when_done, changed, step, Says, Lives, rests, calls, Agrees, Matches, RunsAgree, Replayed, Replays, ReplaysNew}
use Rattle.comparison.proofs.Ending.{compares_length, compare_ends}

cond_same : {A : Type 0} (b : Bool) (x : A) → cond b x x ≡ x
cond_same true x = refl
cond_same false x = refl

module _ {S : Type 0} where
  load_after : (r : Done) (m : Model S) (k : Option (Model S)) → after_load r m k ≡ when_done (answer_of_done r) (Some m) k
  load_after (Ok u) m k = refl
  load_after (Err f) m k = refl

  withdraw_after : (r : Done) (k : Option (Model S)) → after_withdraw r k ≡ when_done (answer_of_done r) None k
  withdraw_after (Ok u) k = refl
  withdraw_after (Err f) k = refl

module _ {S : Type 0} (same : S → S → Bool) where
  -- the same call and answer under other names
  pub did_as : {s t : Memory S} {a b : Request S} {r x : Reply} → b ≡ a → x ≡ r → Did same s a r t → Did same s b x t
  did_as {s} {t} {a} {b} {r} {x} e f d = subst (λ y. Did same s y x t) (sym e) (subst (λ y. Did same s a y t) (sym f) d)

  -- one call more
  run_more : {s t u : Memory S} {asks : List (Request S)} {rs : List Reply} {a : Request S} {r : Reply} → Run same s asks rs t → Did same t a r u → Run same s (asks ++ a ∷ []) (rs ++ r ∷ []) u
  run_more none d = more d none
  run_more (more e rest) d = more e (run_more rest d)

  -- `replay_new` without room for the answers
  pub none_replayed : {C : Type 0} (ask : C → Request S) (acts : List C) (fresh shelf : Shelf) (l k : Lists S) (old new : List Reply) (e f : TooFewAnswers) → false ≡ leb (length acts) (length old)
      → Replays same (Err e) (lent fresh l) (map ask acts) old new (lent shelf k) → ReplaysNew same (Err f) l (map ask acts) old new k
  none_replayed ask acts fresh shelf l k old new e f h d =
      let u = d.0 in
      let short : length old < length acts = leb-false (length acts) (length old) (sym h) in
      (omega (arith, short, length-map acts ask), (λ i. record { symbols = u.symbols i; numbers = u.numbers i; work = u.work i; word = u.word i }), d.1)

module _ {S : Type 0} (same : S → S → Bool) {foreign : S → Bool} (laws : KindLaws same foreign) where
  -- one call is the plain shelf's, place by place
  pub record Fair (s : Memory S) (a : Request S) (r : Reply) (u : Memory S) : Type 0 where
    pub content : (q : ℕ) (k : Option (Model S)) → Holds same s.base q k → Holds same u.base q (cond (eqb q (place_of a)) (changed a r k) k)
    pub reply : (k : Option (Model S)) → Holds same s.base (place_of a) k → Says same (has s.base) (length s.work) a k s.word r u.word
    pub symbols : length u.base.symbols ≡ length s.base.symbols
    pub numbers : length u.base.numbers ≡ length s.base.numbers
    pub work : length u.work ≡ length s.work

  pub fair : {s u : Memory S} {a : Request S} {r : Reply} → Did same s a r u → Fair s a r u
  fair (load {s = s} {t = t} {p = p} {m = m} r d) =
      let f = load_refines same s t p m r d in
      record {
        content = λ q k h. subst (λ x. Holds same t q (cond (eqb q p) x k)) (load_after r m k) (f.content q k h);
        reply = λ k h. (refl, (r, refl, f.reply k h));
        symbols = f.symbols;
        numbers = f.numbers;
        work = refl;
      }
  fair (withdraw {s = s} {t = t} {p = p} r d) =
      let f = withdraw_refines same s t p r d in
      record {
        content = λ q k h. subst (λ x. Holds same t q (cond (eqb q p) x k)) (withdraw_after r k) (f.content q k h);
        reply = λ k h. (refl, ap answer_of_done (f.reply k h));
        symbols = f.symbols;
        numbers = f.numbers;
        work = refl;
      }
  fair (try {s = s} {p = p} {w = w} r d) =
      let f = try_refines same s p w r d in
      record { content = f.content; reply = λ k h. (refl, (r, refl, f.reply k h)); symbols = refl; numbers = refl; work = refl }
  fair (compare {s = s} {work = work} {work' = work'} {word = word} {word' = word'} {p = p} {t = t} r H A d) =
      record {
        content = λ q k h. subst (Holds same s q) (sym (cond_same (eqb q p) k)) h;
        reply = λ k h. (r, refl, compare_ends same laws t H A s p work word work' word' r k d h);
        symbols = refl;
        numbers = refl;
        work = compares_length t s p work word work' word' r d;
      }

  pub run_agrees : {s u : Memory S} {asks : List (Request S)} {rs : List Reply} → Run same s asks rs u → (plain : Plain S) → Matches same s plain → Agrees same s plain asks rs u
  run_agrees none plain h = record { after = plain; lives = rests; holds = h }
  run_agrees {u = u} (more {s = s} {t = t} {a = a} {asks = asks} {r = r} {rs = rs} d rest) plain h =
      let f = fair d in
      let ih = run_agrees rest (step a r plain) (λ q. f.content q (plain q) (h q)) in
      let rooms : has t.base ≡ has s.base = λ j p. room (f.symbols j) (f.numbers j) p in
      record {
        after = ih.after;
        lives = calls (f.reply (plain (place_of a)) (h (place_of a)))
            (subst (λ places. Lives same places (length s.work) (step a r plain) t.word asks rs ih.after u.word) rooms
            (subst (λ n. Lives same (has t.base) n (step a r plain) t.word asks rs ih.after u.word) f.work ih.lives));
        holds = ih.holds;
      }

  pub runs_agree : RunsAgree same
  runs_agree s u plain asks rs h d = run_agrees d plain h

  -- `replay` after all calls, and after one call more
  module _ {C : Type 0} (ask : C → Request S) (acts : List C) where
    pub replayed : (s t : Memory S) (old new : List Reply) (i : ℕ) → length acts ≤ i → i ≤ length acts → Run same s (map ask (take i acts)) (take i new) t
        → drop (length acts) new ≡ drop (length acts) old → Replayed same s (map ask acts) old new t
    replayed s t old new i h k r e =
        let n : length (map ask acts) ≡ length acts = length-map acts ask in
        let is : i ≡ length (map ask acts) = omega arith in
        let ran : Run same s (map ask acts) (take (length (map ask acts)) new) t =
        subst (λ j. Run same s (map ask acts) (take j new) t) is (subst (λ l. Run same s (map ask l) (take i new) t) (take_all i acts h) r) in
        record { ran = ran; rest = subst (λ j. drop j new ≡ drop j old) (sym n) e; agrees = run_agrees ran }

    pub replay_more : (s t u : Memory S) (new : List Reply) (i : ℕ) (x : C) (r : Reply) → i < length acts → i < length new → x ≡ get_or acts i x
        → Run same s (map ask (take i acts)) (take i new) t → Did same t (ask x) r u → Run same s (map ask (take (i + 1) acts)) (take (i + 1) (set new i r)) u
    replay_more s t u new i x r h k e run d =
        let asks : map ask (take (i + 1) acts) ≡ map ask (take i acts) ++ ask x ∷ [] = map_more ask acts i x h ∙ ap (λ y. map ask (take i acts) ++ ask y ∷ []) (sym e) in
        let rs = take_more_set new i r k in
        subst (λ l. Run same s l (take (i + 1) (set new i r)) u) (sym asks) (subst (λ l. Run same s (map ask (take i acts) ++ ask x ∷ []) l u) (sym rs) (run_more same run d))
