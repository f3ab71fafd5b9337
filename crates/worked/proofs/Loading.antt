-- The loads and the trial of the worked cases.
use Rattle.std.proofs.Common.{◌≡◌, ℕ, zero, suc, ◌<◌, ◌≤◌, Bool, true, false, ◌⊎◌, List, [], ◌∷◌, ◌++◌, length, take, Some, None, Ok, Err, Result, sym, refl, ap, ◌∙◌, subst, inl, inr, ⊎_elim, arith, is_some, Option}
use Rattle.std.specs.List.{AllByRecursion}
use Rattle.std.proofs.lemmas.Bool.{cases_lt, both_ways, false≢true}
use Rattle.symbols.specs.Kinds.{KindLaws}
use Rattle.faults.specs.declared.Fault.{Fault}
use Rattle.faults.specs.declared.Fault.TheVariants.{Ambiguous}
use Rattle.codes.specs.Tree.{leaf, then, maybe, many}
use Rattle.language.specs.Words.{Expr, Marked}
use Rattle.language.specs.Sets.{First, Follow}
use Rattle.language.specs.Meaning.{Model, Formed, symbol_at, like, agree, Spells, Word, Beginning, Competes, Unambiguous, LeastCompeting}
use Rattle.language.proofs.Opponents.{Together, parts_together}
use Rattle.language.proofs.Symbols.{agree_within, agree_turn}
use Rattle.models.specs.declared.trials.Trial.{Trial}
use Rattle.models.specs.declared.trials.Trial.TheVariants.{No}
use Rattle.models.specs.Told.{Flawed, refused, ambiguous, TrialTold}
use Rattle.models.proofs.Answered.{one_answer}
use Rattle.shelf.specs.declared.records.Summary.{Summary}
use Rattle.shelf.specs.Places.{room, record_at, has, HoldsAt}
use Rattle.shelf.specs.Calls.{Done, Judges, LoadEnds, TrialEnds}
use Rattle.shelf.proofs.Refining.{full_is, try_refines}
use Rattle.worked.specs.Models.{star_a_star, loop_then_b, a_then_star, stars_star, either_star, stars, empty_model, only_a, a_x_b, a_b, a_star, a_maybe_b}
use Rattle.worked.specs.Cases.{Three, LoadEndsWith, TrialAnswers, WorkedCalls}
use Rattle.worked.proofs.Formed.{star_a_star_formed, loop_then_b_formed, a_then_star_formed, stars_star_formed, either_star_formed, stars_formed, empty_formed, only_a_formed, a_x_b_formed, a_b_formed, a_star_formed, a_maybe_b_formed}

-- marked words of a position under '*': it stands there not at all, once, twice
pub none : (k : ℕ) → Marked (many (leaf k)) []
none k = ([], refl, tt)

pub once : (k : ℕ) → Marked (many (leaf k)) (k ∷ [])
once k = ((k ∷ []) ∷ [], refl, (refl, tt))

pub twice : (k : ℕ) → Marked (many (leaf k)) (k ∷ k ∷ [])
twice k = ((k ∷ []) ∷ (k ∷ []) ∷ [], refl, (refl, (refl, tt)))

-- in (a,a*), one position at most comes first, and one at most follows
abbrev One : Expr
One = then (leaf 1) (many (leaf 2))

one_first : (x : ℕ) → First One x → x ≡ 1
one_first x (inl h) = h
one_first x (inr h) = absurd h.0

one_follow : (z x : ℕ) → Follow One z x → x ≡ 2
one_follow z x (inl (inl h)) = absurd h
one_follow z x (inl (inr (inl h))) = absurd h
one_follow z x (inl (inr (inr h))) = h.1
one_follow z x (inr h) = h.1

one_together : (x y : ℕ) → Together One x y → x ≡ y
one_together x y (inl h) = one_first x h.0 ∙ sym (one_first y h.1)
one_together x y (inr h) = one_follow h.0 x h.1 ∙ sym (one_follow h.0 y h.2)

module _ {S : Type 0} (same : S → S → Bool) where
  -- a model is judged in one way
  not_flawed : (m : Model S) (f : Fault) → Formed m → Unambiguous same m → Flawed same m f → ⊥
  not_flawed m f w c (refused h) = let e = (one_answer same).competing m (Ok None) (Err f) (w, c) h in let z : ◌≡◌ {A = ℕ} 0 1 = cc in omega arith
  not_flawed m f w c (ambiguous {x} {y} z h) = c x y h.compete

  one_judgement : (m : Model S) (r q : Done) → Judges same m r → Judges same m q → q ≡ r
  one_judgement m (Ok u) (Ok v) h k = refl
  one_judgement m (Ok u) (Err g) h k = absurd (not_flawed m g h.0 h.1 k)
  one_judgement m (Err f) (Ok v) h k = absurd (not_flawed m f k.0 k.1 h)
  one_judgement m (Err f) (Err g) h k = let e = ((one_answer same).study m [] (Err g) (Err f) [] [] (k, refl) (h, refl)).0 in cc

  ends_judged : (here full : Bool) (p : ℕ) (m : Model S) (q : Done) → here ≡ true → full ≡ false → LoadEnds same here full p m q → Judges same m q
  ends_judged false full p m q e f h = absurd (false≢true e)
  ends_judged true true p m q e f h = absurd (false≢true (sym f))
  ends_judged true false p m q e f h = h

  pub ends_with : (m : Model S) (r : Done) → Judges same m r → LoadEndsWith same m r
  ends_with m r j = record {
    judged = j;
    answers = λ s t p q e h l. one_judgement m r q j (ends_judged (has s p) (is_some (record_at s.shelf p)) p m q e (full_is same (record_at s.shelf p) s.symbols s.numbers p None h) l.ends);
  }

  -- a place that holds a model is there
  held_there : (found : Option Summary) (ss : List S) (ns : List ℕ) (p : ℕ) (m : Model S) → HoldsAt same found ss ns p (Some m) → room (length ss) (length ns) p ≡ true
  held_there None ss ns p m h = absurd h
  held_there (Some t) ss ns p m h = h.0

  trial_one : (here : Bool) (p : ℕ) (m : Model S) (word : List S) (v : Trial) (q : Result Trial Fault) → TrialTold same m word v → here ≡ true → TrialEnds same here p (Some m) word q → q ≡ Ok v
  trial_one false p m word v q d e h = absurd (false≢true e)
  trial_one true p m word v (Ok u) d e h = ap Ok ((one_answer same).trial m word u v h d)
  trial_one true p m word v (Err f) d e h = absurd h

  tried : (m : Model S) (word : List S) (v : Trial) → TrialTold same m word v → TrialAnswers same m word v
  tried m word v d = record {
    told = d;
    answers = λ s p q h k. trial_one (has s p) p m word v q d (held_there (record_at s.shelf p) s.symbols s.numbers p m h) ((try_refines same s p word q k).reply (Some m) h);
  }

  -- no symbol of the list is the same as one before it
  abbrev Apart : List S → Type 0
  Apart [] = Unit {0}
  Apart (a ∷ xs) = AllByRecursion (λ b. same b a ≡ false) xs × Apart xs

  not_like : (a : S) (xs : List S) → AllByRecursion (λ b. same b a ≡ false) xs → (x : ℕ) → like same (symbol_at xs x) a ≡ true → ⊥
  not_like a xs d zero h = false≢true h
  not_like a [] d (suc x) h = false≢true h
  not_like a (b ∷ xs) d (suc zero) h = both_ways (same b a) d.0 h
  not_like a (b ∷ xs) d (suc (suc x)) h = not_like a xs d.1 (suc x) h

module _ {S : Type 0} (same : S → S → Bool) {foreign : S → Bool} (laws : KindLaws same foreign) where
  apart_one : (xs : List S) → Apart same xs → (x y : ℕ) → agree same (symbol_at xs x) (symbol_at xs y) ≡ true → x ≡ y
  apart_one xs d zero y h = absurd (let i = agree_within same xs 0 y h in omega (arith, i.0))
  apart_one xs d (suc x) zero h = absurd (false≢true h)
  apart_one [] d (suc x) (suc y) h = absurd (false≢true h)
  apart_one (a ∷ xs) d (suc zero) (suc zero) h = refl
  apart_one (a ∷ xs) d (suc zero) (suc (suc y)) h = absurd (not_like same a xs d.0 (suc y) (agree_turn same laws (Some a) (symbol_at xs (suc y)) h))
  apart_one (a ∷ xs) d (suc (suc x)) (suc zero) h = absurd (not_like same a xs d.0 (suc x) h)
  apart_one (a ∷ xs) d (suc (suc x)) (suc (suc y)) h = ap suc (apart_one xs d.1 (suc x) (suc y) h)

  -- where no two symbols are the same, the model is not ambiguous
  apart_loads : (m : Model S) → Formed m → Apart same m.symbols → LoadEndsWith same m (Ok tt)
  apart_loads m w d = ends_with same m (Ok tt) (w, λ x y c. c.0 (apart_one m.symbols d x y c.1))

  pub not_turned : (a b : S) → same a b ≡ false → same b a ≡ false
  not_turned a b e = «by» (same b a) refl
    where
      «by» : (t : Bool) → same b a ≡ t → t ≡ false
      «by» true f = absurd (both_ways (same a b) e (laws.symmetric b a f))
      «by» false f = refl

  module _ (a b x : S) (D : Three same foreign a b x) where
    star_a_star_least : LeastCompeting same (star_a_star a) 1 2
    star_a_star_least = record {
      rising = omega arith;
      compete = (
        (λ q. omega arith),
        laws.reflexive a,
        (
          [],
          2 ∷ [],
          [],
          (1 ∷ 2 ∷ [], [], refl, (1 ∷ [], 2 ∷ [], refl, once 1, refl), none 3),
          (2 ∷ [], [], refl, ([], 2 ∷ [], refl, none 1, refl), none 3),
        ),
      );
      least = λ u v h c.
          let i = agree_within same (a ∷ a ∷ a ∷ []) u v c.1 in
          ⊎_elim (λ l. inl l) (λ l. inr (omega (arith, l, i.0), omega (arith, h, i.0))) (cases_lt 1 u);
    }

    loop_then_b_least : LeastCompeting same (loop_then_b a b) 2 3
    loop_then_b_least = record {
      rising = omega arith;
      compete = (
        (λ q. omega arith),
        laws.reflexive b,
        (
          1 ∷ [],
          3 ∷ [],
          [],
          (1 ∷ 2 ∷ [], 3 ∷ [], refl, ((1 ∷ 2 ∷ []) ∷ [], refl, ((1 ∷ [], 2 ∷ [], refl, refl, inr refl), tt)), refl),
          (1 ∷ [], 3 ∷ [], refl, ((1 ∷ []) ∷ [], refl, ((1 ∷ [], [], refl, refl, inl refl), tt)), refl),
        ),
      );
      least = least;
    }
      where
        least : (u v : ℕ) → u < v → Competes same (loop_then_b a b) u v → (2 < u) ⊎ ((◌≡◌ {A = ℕ} 2 u) × (3 ≤ v))
        least zero v h c = let i = agree_within same (a ∷ b ∷ b ∷ []) zero v c.1 in absurd (omega (arith, i.0))
        least (suc zero) zero h c = absurd (omega arith)
        least (suc zero) (suc zero) h c = absurd (omega arith)
        least (suc zero) (suc (suc zero)) h c = absurd (both_ways (same a b) D.a_not_b c.1)
        least (suc zero) (suc (suc (suc zero))) h c = absurd (both_ways (same a b) D.a_not_b c.1)
        least (suc zero) (suc (suc (suc (suc v)))) h c = let i = agree_within same (a ∷ b ∷ b ∷ []) 1 (suc (suc (suc (suc v)))) c.1 in absurd (omega (arith, i.1))
        least (suc (suc zero)) v h c = inr (refl, omega arith)
        least (suc (suc (suc u))) v h c = inl (omega arith)

    -- the words of (a,b?)
    few_words : (w : List ℕ) → Marked (then (leaf 1) (maybe (leaf 2))) w → (w ≡ 1 ∷ []) ⊎ (w ≡ 1 ∷ 2 ∷ [])
    few_words w (u, v, e, p, inl q) = inl (e ∙ ap (λ l. l ++ v) p ∙ ap (λ l. 1 ∷ l) q)
    few_words w (u, v, e, p, inr q) = inr (e ∙ ap (λ l. l ++ v) p ∙ ap (λ l. 1 ∷ l) q)

    too_long : (v : List S) → Word same (a_maybe_b a b) (a ∷ b ∷ b ∷ v) → ⊥
    too_long v (w, m, s) =
        elim (few_words w m) [
          | inl e ↦ (let h : Spells same (a ∷ b ∷ []) (1 ∷ []) (a ∷ b ∷ b ∷ v) = subst (λ l. Spells same (a ∷ b ∷ []) l (a ∷ b ∷ b ∷ v)) e s in h.1)
          | inr e ↦ (let h : Spells same (a ∷ b ∷ []) (1 ∷ 2 ∷ []) (a ∷ b ∷ b ∷ v) = subst (λ l. Spells same (a ∷ b ∷ []) l (a ∷ b ∷ b ∷ v)) e s in h.1.1)
        ]

    a_b_b_told : TrialTold same (a_maybe_b a b) (a ∷ b ∷ b ∷ []) (No 2)
    a_b_b_told = (
      (λ w. too_long [] w),
      record {
        within = omega arith;
        begins = ([], (1 ∷ 2 ∷ [], (1 ∷ [], 2 ∷ [], refl, refl, inr refl), (laws.reflexive a, (laws.reflexive b, tt))));
        most = λ k le h. ⊎_elim
            (λ l.
            let q : k ≡ 3 = omega (arith, l, le) in
            let g = subst (λ i. Beginning same (a_maybe_b a b) (take i (a ∷ b ∷ b ∷ []))) q h in
            absurd (too_long g.0 g.1))
            (λ l. l) (cases_lt 2 k);
      },
    )

    b_a : same b a ≡ false
    b_a = not_turned a b D.a_not_b

    x_a : same x a ≡ false
    x_a = not_turned a x D.a_not_x

    pub calls : WorkedCalls same foreign a b x
    calls = record {
      star_a_star_refused = ends_with same (star_a_star a) (Err (Ambiguous 1 2)) (ambiguous (star_a_star_formed a b x) star_a_star_least);
      loop_then_b_refused = ends_with same (loop_then_b a b) (Err (Ambiguous 2 3)) (ambiguous (loop_then_b_formed a b x) loop_then_b_least);
      a_then_star_loads = ends_with same (a_then_star a) (Ok tt) (a_then_star_formed a b x, λ p q c. c.0 (one_together p q (parts_together One p q c.2)));
      others_load = (
        apart_loads (stars_star a b) (stars_star_formed a b x) ((b_a, tt), (tt, tt)),
        (
          apart_loads (either_star a b) (either_star_formed a b x) ((b_a, tt), (tt, tt)),
          (
            apart_loads (stars a b) (stars_formed a b x) ((b_a, tt), (tt, tt)),
            (
              apart_loads empty_model (empty_formed a b x) tt,
              (
                apart_loads (only_a a) (only_a_formed a b x) (tt, tt),
                (
                  apart_loads (a_x_b a x b) (a_x_b_formed a b x) ((x_a, (b_a, tt)), ((D.b_not_x, tt), (tt, tt))),
                  (
                    apart_loads (a_b a b) (a_b_formed a b x) ((b_a, tt), (tt, tt)),
                    (
                      apart_loads (a_star a) (a_star_formed a b x) (tt, tt),
                      (apart_loads (a_maybe_b a b) (a_maybe_b_formed a b x) ((b_a, tt), (tt, tt)), tt),
                    ),
                  ),
                ),
              ),
            ),
          ),
        ),
      );
      a_b_b_tried = tried same (a_maybe_b a b) (a ∷ b ∷ b ∷ []) (No 2) a_b_b_told;
    }
