-- The comparisons and the layers of the worked cases, for every reader.
use Rattle.std.proofs.Common.{◌≡◌, ℕ, zero, suc, ◌+◌, ◌*◌, ◌≤◌, Bool, true, false, cond, not, ◌⊎◌, List, [], ◌∷◌, ◌++◌, length, drop, Some, Ok, Err, Result, sym, refl, ap, ◌∙◌, subst, inl, inr, arith, None, Option}
use Rattle.std.proofs.lemmas.Bool.{both_ways, false≢true}
use Rattle.symbols.specs.Kinds.{KindLaws}
use Rattle.faults.specs.declared.Fault.{Fault}
use Rattle.faults.specs.declared.Fault.TheVariants.{ShortList}
use Rattle.faults.specs.declared.Layer.TheVariants.{Compare}
use Rattle.codes.specs.Tree.{leaf, then, either, many}
use Rattle.language.specs.Words.{Expr, Marked}
use Rattle.language.specs.Sets.{Local}
use Rattle.language.specs.Meaning.{Model, Formed, symbol_at, like, spelled, Spells, Word}
use Rattle.language.proofs.Sound.{sound}
use Rattle.language.proofs.Symbols.{Within, spells_own}
use Rattle.tables.specs.Tables.{Table, Sound}
use Rattle.tables.specs.Words.{Takes}
use Rattle.tables.specs.Layers.{skip_table, limited, held, own}
use Rattle.tables.proofs.Laws.{skip_sound}
use Rattle.tables.proofs.Limits.{limited_sound}
use Rattle.tables.proofs.Piles.{skip_rel, limit_rel}
use Rattle.walk.specs.Order.{NotAfter, Smaller, here, later}
use Rattle.product.specs.Compares.{pairs, LeastAstray, CompareSays, little_work, included, missed}
use Rattle.product.proofs.Astray.{marked_within}
use Rattle.product.proofs.Answered.{one}
use Rattle.shelf.specs.Calls.{TakesJust}
use Rattle.worked.specs.Models.{stars_star, either_star, stars, empty_model, only_a, a_x_b, a_b, a_star}
use Rattle.worked.specs.Cases.{Three, Answers, IsIncluded, Finds, EachReader, EachOfTwo, WorkedReaders}
use Rattle.worked.proofs.Formed.{stars_star_formed, either_star_formed, empty_formed, a_x_b_formed, a_star_formed}
use Rattle.worked.proofs.Loading.{none, once, twice, not_turned}

-- (a*,b*) and (a|b), as trees
abbrev Stars : Expr
Stars = then (many (leaf 1)) (many (leaf 2))

abbrev Either : Expr
Either = either (leaf 1) (leaf 2)

-- positions that are words one by one are a word of the loop
singles : {S : Type 0} (same : S → S → Bool) (e : Expr) (n : ℕ) → ((x : ℕ) → (1 ≤ x) × (x ≤ n) → Marked e (x ∷ [])) → (w : List ℕ) → Within same n w → Marked (many e) w
singles same e n f [] h = ([], refl, tt)
singles same e n f (x ∷ w) h = let r = singles same e n f w h.1 in ((x ∷ []) ∷ r.0, ap (λ l. x ∷ l) r.1, (f x h.0, r.2))

stars_one : (x : ℕ) → (1 ≤ x) × (x ≤ 2) → Marked Stars (x ∷ [])
stars_one zero h = absurd (omega arith)
stars_one (suc zero) h = (1 ∷ [], [], refl, once 1, none 2)
stars_one (suc (suc zero)) h = ([], 2 ∷ [], refl, none 1, once 2)
stars_one (suc (suc (suc x))) h = absurd (omega arith)

either_one : (x : ℕ) → (1 ≤ x) × (x ≤ 2) → Marked Either (x ∷ [])
either_one zero h = absurd (omega arith)
either_one (suc zero) h = inl refl
either_one (suc (suc zero)) h = inr refl
either_one (suc (suc (suc x))) h = absurd (omega arith)

-- no marked word of (a*,b*) has position 2 directly before 1
no_turn : Local Stars (2 ∷ 1 ∷ []) → ⊥
no_turn (f, (inl (inl (inl h)), l)) = h
no_turn (f, (inl (inl (inr h)), l)) = let q = h.0 in omega (arith, q)
no_turn (f, (inl (inr (inl h)), l)) = h
no_turn (f, (inl (inr (inr h)), l)) = let q = h.1 in omega (arith, q)
no_turn (f, (inr h, l)) = let q = h.0 in omega (arith, q)

one_or_two : (p : ℕ) → (1 ≤ p) × (p ≤ 2) → (p ≡ 1) ⊎ (p ≡ 2)
one_or_two zero h = absurd (omega arith)
one_or_two (suc zero) h = inl refl
one_or_two (suc (suc zero)) h = inr refl
one_or_two (suc (suc (suc p))) h = absurd (omega arith)

-- the only marked word of positions one after the other
two_word : (w : List ℕ) → Marked (then (leaf 1) (leaf 2)) w → w ≡ 1 ∷ 2 ∷ []
two_word w (u, v, e, p, q) = e ∙ ap (λ l. l ++ v) p ∙ ap (λ l. 1 ∷ l) q

three_word : (w : List ℕ) → Marked (then (then (leaf 1) (leaf 2)) (leaf 3)) w → w ≡ 1 ∷ 2 ∷ 3 ∷ []
three_word w (u, v, e, p, q) = e ∙ ap (λ l. l ++ v) (two_word u p) ∙ ap (λ l. 1 ∷ 2 ∷ l) q

module _ {S : Type 0} (same : S → S → Bool) {foreign : S → Bool} (laws : KindLaws same foreign) where
  -- what a comparison says is its one answer
  answers : (t : Table S) (m : Model S) → Formed m → (work : ℕ) (word : List ℕ) (r : Result (Option ℕ) Fault) (word' : List ℕ) → CompareSays same t m work word r word' → Answers same t m work word r word'
  answers t m F work word r word' d = record { says = d; only = λ q word'' e. one same laws t m F work word word'' word' q r e d }

  includes : (t : Table S) (m : Model S) → Formed m → ((s : List S) → Word same m s → Takes t s) → IsIncluded same t m
  includes t m F f work word h k = answers t m F work word (Ok None) word (included h k f)

  finds : (t : Table S) (m : Model S) (w : List ℕ) (v : List S) → Formed m → spelled m.symbols w ≡ v → LeastAstray t m w → Finds same t m w v
  finds t m w v F e l = (e, λ work word h k. answers t m F work word (Ok (Some (length w))) (w ++ drop (length w) word) (missed h k l))

  module _ (a b x : S) (D : Three same foreign a b x) where
    abbrev ab : List S
    ab = a ∷ b ∷ []

    like_b : (y : ℕ) → like same (symbol_at ab y) b ≡ true → y ≡ 2
    like_b zero h = absurd (false≢true h)
    like_b (suc zero) h = absurd (both_ways (same a b) D.a_not_b h)
    like_b (suc (suc zero)) h = refl
    like_b (suc (suc (suc y))) h = absurd (false≢true h)

    like_a : (y : ℕ) → like same (symbol_at ab y) a ≡ true → y ≡ 1
    like_a zero h = absurd (false≢true h)
    like_a (suc zero) h = refl
    like_a (suc (suc zero)) h = absurd (both_ways (same b a) (not_turned same laws a b D.a_not_b) h)
    like_a (suc (suc (suc y))) h = absurd (false≢true h)

    b_a_not : (w : List ℕ) → Marked Stars w → Spells same ab w (b ∷ a ∷ []) → ⊥
    b_a_not [] m s = s
    b_a_not (p ∷ []) m s = s.1
    b_a_not (p ∷ q ∷ []) m s =
        no_turn
        (subst (λ i. Local Stars (2 ∷ i ∷ [])) (like_a q s.1.0)
        (subst (λ i. Local Stars (i ∷ q ∷ [])) (like_b p s.0) (sound Stars (p ∷ q ∷ []) m)))
    b_a_not (p ∷ q ∷ r ∷ w) m s = s.1.1

    -- the least word of (a|b)* that a reader of (a*,b*) does not take
    module _ (t : Table S) (J : TakesJust same (Some (stars a b)) t) where
      stars_taken : (w : List ℕ) → Marked Stars w → Within same 2 w → Takes t (spelled ab w)
      stars_taken w m h = (J (spelled ab w)).1 (w, m, spells_own same laws.reflexive ab w h)

      b_a_first : (v : List ℕ) → Within same 2 v → (Takes t (spelled ab v) → ⊥) → NotAfter (2 ∷ 1 ∷ []) v
      b_a_first [] h f = absurd (f (stars_taken [] ([], [], refl, none 1, none 2) tt))
      b_a_first (p ∷ []) h f = absurd (f (stars_taken (p ∷ []) (stars_one p h.0) h))
      b_a_first (p ∷ q ∷ []) h f =
          elim (one_or_two p h.0) [
            | inl e ↦ elim (one_or_two q h.1.0) [
              | inl d ↦ absurd (f (stars_taken (p ∷ q ∷ []) (subst (λ i. Marked Stars (i ∷ q ∷ [])) (sym e) (subst (λ i. Marked Stars (1 ∷ i ∷ [])) (sym d) (1 ∷ 1 ∷ [], [], refl, twice 1, none 2))) h))
              | inr d ↦ absurd (f (stars_taken (p ∷ q ∷ []) (subst (λ i. Marked Stars (i ∷ q ∷ [])) (sym e) (subst (λ i. Marked Stars (1 ∷ i ∷ [])) (sym d) (1 ∷ [], 2 ∷ [], refl, once 1, once 2))) h))
            ]
            | inr e ↦ elim (one_or_two q h.1.0) [
              | inl d ↦ inl (subst (λ i. 2 ∷ 1 ∷ [] ≡ i ∷ q ∷ []) (sym e) (subst (λ i. 2 ∷ 1 ∷ [] ≡ 2 ∷ i ∷ []) (sym d) refl))
              | inr d ↦ inr (inr (refl, subst (λ i. Smaller (2 ∷ 1 ∷ []) (i ∷ q ∷ [])) (sym e) (later (here (omega (arith, d))))))
            ]
          ]
      b_a_first (p ∷ q ∷ r ∷ v) h f = inr (inl (omega arith))

      b_a_least : LeastAstray t (either_star a b) (2 ∷ 1 ∷ [])
      b_a_least = record {
        marked = singles same Either 2 either_one (2 ∷ 1 ∷ []) ((omega arith, omega arith), ((omega arith, omega arith), tt));
        astray = λ q. let w = (J (b ∷ a ∷ [])).0 q in b_a_not w.0 w.1 w.2;
        least = λ v m f. b_a_first v (marked_within same (either_star a b) (either_star_formed a b x) v m) f;
      }

    empty_least : (t : Table S) → TakesJust same (Some (only_a a)) t → LeastAstray t empty_model []
    empty_least t J = record {
      marked = refl;
      astray = λ q. let w = (J []).0 q in subst (λ l. Spells same (a ∷ []) l []) w.1 w.2;
      least = λ v m f. inl (sym m);
    }

    a_x_b_least : (t : Table S) → TakesJust same (Some (a_b a b)) t → LeastAstray t (a_x_b a x b) (1 ∷ 2 ∷ 3 ∷ [])
    a_x_b_least t J = record {
      marked = (1 ∷ 2 ∷ [], 3 ∷ [], refl, (1 ∷ [], 2 ∷ [], refl, refl, refl), refl);
      astray = λ q. let w = (J (a ∷ x ∷ b ∷ [])).0 q in (subst (λ l. Spells same ab l (a ∷ x ∷ b ∷ [])) (two_word w.0 w.1) w.2).1.1;
      least = λ v m f. inl (sym (three_word v m));
    }

    -- the foreign symbol in the middle is dropped
    own_outer : (p q r : S) → foreign p ≡ false → foreign q ≡ true → foreign r ≡ false → own foreign (p ∷ q ∷ r ∷ []) ≡ p ∷ r ∷ []
    own_outer p q r e f g =
        ap (λ i. cond (not i) (p ∷ own foreign (q ∷ r ∷ [])) (own foreign (q ∷ r ∷ []))) e
        ∙ ap (λ i. p ∷ cond (not i) (q ∷ own foreign (r ∷ [])) (own foreign (r ∷ []))) f
        ∙ ap (λ i. p ∷ cond (not i) (r ∷ []) []) g

    skip_taken : (t : Table S) → Sound t → TakesJust same (Some (a_b a b)) t → (s : List S) → Spells same (a ∷ x ∷ b ∷ []) (1 ∷ 2 ∷ 3 ∷ []) s → Takes (skip_table foreign t) s
    skip_taken t H J [] h = absurd h
    skip_taken t H J (p ∷ []) h = absurd h.1
    skip_taken t H J (p ∷ q ∷ []) h = absurd h.1.1
    skip_taken t H J (p ∷ q ∷ r ∷ []) h =
        let o = own_outer p q r (sym (laws.alike a p h.0) ∙ D.own_a) (sym (laws.alike x q h.1.0) ∙ D.foreign_x) (sym (laws.alike b r h.1.1.0) ∙ D.own_b) in
        (skip_rel foreign t H (p ∷ q ∷ r ∷ [])).1 (subst (Takes t) (sym o) ((J (p ∷ r ∷ [])).1 (1 ∷ 2 ∷ [], (1 ∷ [], 2 ∷ [], refl, refl, refl), (h.0, (h.1.1.0, tt)))))
    skip_taken t H J (p ∷ q ∷ r ∷ k ∷ s) h = absurd h.1.1.1

    -- limit 2 over (a*)
    is_one : (p : ℕ) → (1 ≤ p) × (p ≤ 1) → p ≡ 1
    is_one p h = omega (arith, h)

    ones : (w : List ℕ) → Within same 1 w → Marked (many (leaf 1)) w
    ones w h = singles same (leaf 1) 1 (λ p k. ap (λ i. i ∷ []) (is_one p k)) w h

    module _ (t : Table S) (H : Sound t) (e : t.states ≡ 2) (J : TakesJust same (Some (a_star a)) t) where
      held_two : held t.states 2 ≡ 2
      held_two = ap (λ i. held i 2) e

      short_taken : (w : List ℕ) → Within same 1 w → length (spelled (a ∷ []) w) ≤ 2 → Takes (limited 2 t) (spelled (a ∷ []) w)
      short_taken w h l =
          (limit_rel (held t.states 2) t H (spelled (a ∷ []) w)).1
          (subst (λ i. length (spelled (a ∷ []) w) ≤ i) (sym held_two) l, (J (spelled (a ∷ []) w)).1 (w, ones w h, spells_own same laws.reflexive (a ∷ []) w h))

      a_a_a_first : (v : List ℕ) → Within same 1 v → (Takes (limited 2 t) (spelled (a ∷ []) v) → ⊥) → NotAfter (1 ∷ 1 ∷ 1 ∷ []) v
      a_a_a_first [] h f = absurd (f (short_taken [] h (omega arith)))
      a_a_a_first (p ∷ []) h f = absurd (f (short_taken (p ∷ []) h (subst (λ i. length (spelled (a ∷ []) (i ∷ [])) ≤ 2) (sym (is_one p h.0)) (omega arith))))
      a_a_a_first (p ∷ q ∷ []) h f =
          absurd (f (short_taken (p ∷ q ∷ []) h
          (subst (λ i. length (spelled (a ∷ []) (i ∷ q ∷ [])) ≤ 2) (sym (is_one p h.0))
          (subst (λ i. length (spelled (a ∷ []) (1 ∷ i ∷ [])) ≤ 2) (sym (is_one q h.1.0)) (omega arith)))))
      a_a_a_first (p ∷ q ∷ r ∷ []) h f =
          inl
          (ap (λ l. l ∷ 1 ∷ 1 ∷ []) (sym (is_one p h.0))
          ∙ ap (λ l. p ∷ l ∷ 1 ∷ []) (sym (is_one q h.1.0))
          ∙ ap (λ l. p ∷ q ∷ l ∷ []) (sym (is_one r h.1.1.0)))
      a_a_a_first (p ∷ q ∷ r ∷ k ∷ v) h f = inr (inl (omega arith))

      a_a_a_least : LeastAstray (limited 2 t) (a_star a) (1 ∷ 1 ∷ 1 ∷ [])
      a_a_a_least = record {
        marked = ones (1 ∷ 1 ∷ 1 ∷ []) ((omega arith, omega arith), ((omega arith, omega arith), ((omega arith, omega arith), tt)));
        astray = λ q.
            let l = ((limit_rel (held t.states 2) t H (a ∷ a ∷ a ∷ [])).0 q).0 in
            let m : 3 ≤ 2 = subst (λ i. 3 ≤ i) held_two l in
            omega (arith, m);
        least = λ v m f. a_a_a_first v (marked_within same (a_star a) (a_star_formed a b x) v m) f;
      }

    -- the start or the one position, beside one of six states or stuck: 14 pairs
    cells : (t : Table S) → t.states ≡ 2 → pairs (limited 2 t) (a_star a) ≡ 14
    cells t e = ap (λ i. (1 + 1) * (i * (held i 2 + 1) + 1)) e

    work_28 : (t : Table S) (H : Sound t) (e : t.states ≡ 2) (J : TakesJust same (Some (a_star a)) t) (word : List ℕ) → 14 ≤ length word
        → Answers same (limited 2 t) (a_star a) 28 word (Ok (Some 3)) (1 ∷ 1 ∷ 1 ∷ drop 3 word)
    work_28 t H e J word h =
        let c = cells t e in
        answers (limited 2 t) (a_star a) (a_star_formed a b x) 28 word (Ok (Some 3)) (1 ∷ 1 ∷ 1 ∷ drop 3 word)
        (missed (omega (arith, c)) (omega (arith, c, h)) (a_a_a_least t H e J))

    work_27 : (t : Table S) → t.states ≡ 2 → (word : List ℕ) → Answers same (limited 2 t) (a_star a) 27 word (Err (ShortList Compare 28)) word
    work_27 t e word =
        let c = cells t e in
        let q : 2 * pairs (limited 2 t) (a_star a) ≡ 28 = omega (arith, c) in
        answers (limited 2 t) (a_star a) (a_star_formed a b x) 27 word (Err (ShortList Compare 28)) word
        (subst (λ i. CompareSays same (limited 2 t) (a_star a) 27 word (Err (ShortList Compare i)) word) q (little_work (omega (arith, q))))

    -- the layers over (a)
    own_first : own foreign (a ∷ x ∷ x ∷ []) ≡ a ∷ []
    own_first =
        ap (λ i. cond (not i) (a ∷ own foreign (x ∷ x ∷ [])) (own foreign (x ∷ x ∷ []))) D.own_a
        ∙ ap (λ i. a ∷ cond (not i) (x ∷ own foreign (x ∷ [])) (own foreign (x ∷ []))) D.foreign_x
        ∙ ap (λ i. a ∷ cond (not i) (x ∷ []) []) D.foreign_x

    skip_limit : (t : Table S) → Sound t → t.states ≡ 2 → TakesJust same (Some (only_a a)) t → Takes (skip_table foreign (limited 1 t)) (a ∷ x ∷ x ∷ [])
    skip_limit t H e J =
        (skip_rel foreign (limited 1 t) (limited_sound 1 t H) (a ∷ x ∷ x ∷ [])).1
        (subst (Takes (limited 1 t)) (sym own_first)
        ((limit_rel (held t.states 1) t H (a ∷ [])).1 (subst (λ i. 1 ≤ held i 1) (sym e) (omega arith), (J (a ∷ [])).1 (1 ∷ [], refl, (laws.reflexive a, tt)))))

    limit_skip : (t : Table S) → Sound t → Takes (limited 1 (skip_table foreign t)) (a ∷ x ∷ x ∷ []) → ⊥
    limit_skip t H q = let l = ((limit_rel (held t.states 1) (skip_table foreign t) (skip_sound foreign t H) (a ∷ x ∷ x ∷ [])).0 q).0 in omega (arith, l)

    pub readers : WorkedReaders same foreign a b x (EachReader same) (EachOfTwo same)
    readers = record {
      stars_star_in_either_star = λ t H J. includes t (stars_star a b) (stars_star_formed a b x)
          (λ s w. (J s).1 (w.0, singles same Either 2 either_one w.0 (marked_within same (stars_star a b) (stars_star_formed a b x) w.0 w.1), w.2));
      either_star_in_stars_star = λ t H J. includes t (either_star a b) (either_star_formed a b x)
          (λ s w. (J s).1 (w.0, singles same Stars 2 stars_one w.0 (marked_within same (either_star a b) (either_star_formed a b x) w.0 w.1), w.2));
      either_star_in_stars = λ t H J. finds t (either_star a b) (2 ∷ 1 ∷ []) (b ∷ a ∷ []) (either_star_formed a b x) refl (b_a_least t J);
      empty_in_a = λ t H J. finds t empty_model [] [] (empty_formed a b x) refl (empty_least t J);
      a_x_b_in_a_b = λ t H J. finds t (a_x_b a x b) (1 ∷ 2 ∷ 3 ∷ []) (a ∷ x ∷ b ∷ []) (a_x_b_formed a b x) refl (a_x_b_least t J);
      a_x_b_in_skip = λ t H J. includes (skip_table foreign t) (a_x_b a x b) (a_x_b_formed a b x)
          (λ s w. skip_taken t H J s (subst (λ l. Spells same (a ∷ x ∷ b ∷ []) l s) (three_word w.0 w.1) w.2));
      a_star_in_limit = λ t H e J. finds (limited 2 t) (a_star a) (1 ∷ 1 ∷ 1 ∷ []) (a ∷ a ∷ a ∷ []) (a_star_formed a b x) refl (a_a_a_least t H e J);
      enough_work = λ t H e J word h. work_28 t H e J word h;
      little_work = λ t H e J word. work_27 t e word;
      skip_over_limit = λ t H e J. skip_limit t H e J;
      limit_over_skip = λ t H J q. limit_skip t H q;
    }
