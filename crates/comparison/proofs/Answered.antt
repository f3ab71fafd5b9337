-- The plain shelf has one answer to each call, and to each list of calls. Assumes nothing.
use Rattle.std.proofs.Common.{◌≡◌, ℕ, Bool, true, false, cond, List, [], ◌∷◌, is_some, Some, None, Ok, Err, Option, Result, sym, refl, ap, ◌∙◌, subst, ⊎_elim}
use Rattle.std.proofs.lemmas.Bool.{eq-eqb, ne_eqb, cases_eq}
use Rattle.faults.specs.declared.Fault.{Fault}
use Rattle.faults.specs.declared.Fault.TheVariants as fault
use Rattle.symbols.specs.Kinds.{KindLaws}
use Rattle.codes.proofs.Answered.{not_refused}
use Rattle.language.specs.Meaning.{Model, Formed, Unambiguous}
use Rattle.models.specs.declared.trials.Trial.{Trial}
use Rattle.models.specs.Told.{Flawed, refused, ambiguous}
use Rattle.models.proofs.Answered.{one_answer}
use Rattle.tables.specs.Tables.{Table}
use Rattle.product.proofs.Answered.{one}
use Rattle.shelf.specs.Calls.{Done, Judges, LoadEnds, TrialEnds}
use Rattle.shelf.proofs.Refining.{ok_err}
use Rattle.comparison.specs.Answers.{Reply}
use Rattle.comparison.specs.Compares.{CompareEnds}
use Rattle.comparison.specs.Runs.{Request, loads, withdraws, tries, compares, place_of, answer_of_done, answer_of_trial, answer_of_compare, Plain, changed, step, Says, Lives, rests, calls}
use Rattle.comparison.specs.Promise.{FormedOf, AllFormed, OneAnswer, OneLife}

module _ {S : Type 0} (same : S → S → Bool) where
  not_flawed : (m : Model S) (f : Fault) → Formed m → Unambiguous same m → Flawed same m f → ⊥
  not_flawed m f w c (refused h) = not_refused _ _ f w h
  not_flawed m f w c (ambiguous {x} {y} v l) = c x y l.compete

  one_judgement : (m : Model S) (r s : Done) → Judges same m r → Judges same m s → r ≡ s
  one_judgement m (Ok u) (Ok v) h k = refl
  one_judgement m (Ok u) (Err g) h k = absurd (not_flawed m g h.0 h.1 k)
  one_judgement m (Err f) (Ok v) h k = absurd (not_flawed m f k.0 k.1 h)
  one_judgement m (Err f) (Err g) h k = let e = ((one_answer same).study m [] (Err f) (Err g) [] [] (h, refl) (k, refl)).0 in let q : f ≡ g = cc in ap Err q

  one_load : (here full : Bool) (p : ℕ) (m : Model S) (r s : Done) → LoadEnds same here full p m r → LoadEnds same here full p m s → r ≡ s
  one_load false full p m r s h k = h ∙ sym k
  one_load true true p m r s h k = h ∙ sym k
  one_load true false p m r s h k = one_judgement m r s h k

  one_trial : (here : Bool) (p : ℕ) (k : Option (Model S)) (word : List S) (r s : Result Trial Fault) → TrialEnds same here p k word r → TrialEnds same here p k word s → r ≡ s
  one_trial false p k word r s h j = h ∙ sym j
  one_trial true p None word r s h j = h ∙ sym j
  one_trial true p (Some m) word (Ok v) (Ok w) h j = ap Ok ((one_answer same).trial m word v w h j)
  one_trial true p (Some m) word (Ok v) (Err f) h j = absurd j
  one_trial true p (Some m) word (Err f) s h j = absurd h

  -- a load that is done is of a well-formed model, into a place that exists
  pub load_done : (here full : Bool) (p : ℕ) (m : Model S) (u : Unit {0}) → LoadEnds same here full p m (Ok u) → (here ≡ true) × Formed m
  load_done false full p m u h = absurd (ok_err u (fault.NoPlace p) h)
  load_done true true p m u h = absurd (ok_err u (fault.Taken p) h)
  load_done true false p m u h = (refl, h.0)

  formed_loaded : (here full : Bool) (p : ℕ) (m : Model S) (k : Option (Model S)) (r : Done) → FormedOf k → LoadEnds same here full p m r → FormedOf (changed (loads p m) (answer_of_done r) k)
  formed_loaded here full p m k (Ok u) f h = (load_done here full p m u h).1
  formed_loaded here full p m k (Err g) f h = f

  formed_withdrawn : (p : ℕ) (k : Option (Model S)) (r : Done) → FormedOf k → FormedOf (changed (withdraws p) (answer_of_done r) k)
  formed_withdrawn p k (Ok u) f = tt
  formed_withdrawn p k (Err g) f = f

  formed_on : (places : ℕ → Bool) (work : ℕ) (a : Request S) (k : Option (Model S)) (word word' : List ℕ) (r : Reply) → FormedOf k → Says same places work a k word r word' → FormedOf (changed a r k)
  formed_on places work (loads p m) k word word' r f h = subst (λ x. FormedOf (changed (loads p m) x k)) (sym h.1.1) (formed_loaded (places p) (is_some k) p m k h.1.0 f h.1.2)
  formed_on places work (withdraws p) k word word' r f h = subst (λ x. FormedOf (changed (withdraws p) x k)) (sym h.1) (formed_withdrawn p k _ f)
  formed_on places work (tries p w) k word word' r f h = f
  formed_on places work (compares p t) k word word' r f h = f

  formed_step : (places : ℕ → Bool) (work : ℕ) (a : Request S) (plain : Plain S) (word word' : List ℕ) (r : Reply) → AllFormed plain
      → Says same places work a (plain (place_of a)) word r word' → AllFormed (step a r plain)
  formed_step places work a plain word word' r f h q =
      ⊎_elim
      (λ e. subst (λ b. FormedOf (cond b (changed a r (plain q)) (plain q))) (sym (eq-eqb q (place_of a) e))
      (subst (λ x. FormedOf (changed a r (plain x))) (sym e) (formed_on places work a (plain (place_of a)) word word' r (f (place_of a)) h)))
      (λ ne. subst (λ b. FormedOf (cond b (changed a r (plain q)) (plain q))) (sym (ne_eqb q (place_of a) ne)) (f q))
      (cases_eq q (place_of a))

module _ {S : Type 0} (same : S → S → Bool) {foreign : S → Bool} (laws : KindLaws same foreign) where
  one_compare : (t : Table S) (here : Bool) (p : ℕ) (k : Option (Model S)) → FormedOf k → (work : ℕ) (word u v : List ℕ) (r s : Result (Option ℕ) Fault)
      → CompareEnds same t here p k work word r u → CompareEnds same t here p k work word s v → (r ≡ s) × (u ≡ v)
  one_compare t false p k f work word u v r s h j = (h.0 ∙ sym j.0, h.1 ∙ sym j.1)
  one_compare t true p None f work word u v r s h j = (h.0 ∙ sym j.0, h.1 ∙ sym j.1)
  one_compare t true p (Some m) f work word u v r s h j = one same laws t m f work word u v r s h j

  pub one_says : OneAnswer same
  one_says places work (loads p m) k f word u v r s h j =
      (h.1.1 ∙ ap answer_of_done (one_load same (places p) (is_some k) p m h.1.0 j.1.0 h.1.2 j.1.2) ∙ sym j.1.1, h.0 ∙ sym j.0)
  one_says places work (withdraws p) k f word u v r s h j = (h.1 ∙ sym j.1, h.0 ∙ sym j.0)
  one_says places work (tries p w) k f word u v r s h j =
      (h.1.1 ∙ ap answer_of_trial (one_trial same (places p) p k w h.1.0 j.1.0 h.1.2 j.1.2) ∙ sym j.1.1, h.0 ∙ sym j.0)
  one_says places work (compares p t) k f word u v r s h j =
      let q = one_compare t (places p) p k f work word u v h.0 j.0 h.2 j.2 in
      (h.1 ∙ ap answer_of_compare q.0 ∙ sym j.1, q.1)

  pub one_life : OneLife same
  one_life places work plain p₁ p₂ f word u v asks rs₁ rs₂ rests rests = (refl, refl, refl)
  one_life places work plain p₁ p₂ f word u v asks rs₁ rs₂ (calls {word' = u'} {a = a} {asks = more} {r = r} {rs = rs} h hs) (calls {word' = v'} {r = s} {rs = ss} j js) =
      let q = one_says places work a (plain (place_of a)) (f (place_of a)) word u' v' r s h j in
      let ks : Lives same places work (step a r plain) u' more ss p₂ v =
      subst (λ x. Lives same places work (step a x plain) u' more ss p₂ v) (sym q.0) (subst (λ l. Lives same places work (step a s plain) l more ss p₂ v) (sym q.1) js) in
      let ih = one_life places work (step a r plain) p₁ p₂ (formed_step same places work a plain word u' r f h) u' u v more rs ss hs ks in
      (ap (λ x. x ∷ rs) q.0 ∙ ap (λ l. s ∷ l) ih.0, ih.1, ih.2)
