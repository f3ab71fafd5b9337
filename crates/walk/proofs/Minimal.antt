-- The words of the queue's places are the least ones.
use Rattle.std.proofs.Common.{◌≡◌, ℕ, ◌<◌, ◌≤◌, true, false, ◌⊎◌, List, [], ◌∷◌, ◌++◌, length, get_or, take, Some, sym, ap, ◌∙◌, subst, inl, inr, arith}
use Rattle.std.proofs.lemmas.List.{append_assoc, append-nil, length-take-le, get_or-take}
use Rattle.std.proofs.lemmas.Bool.{cases_lt, cases_order, both_ways}
use Rattle.walk.specs.Order.{Word, NotAfter}
use Rattle.walk.specs.Graph.{LabelledGraph, Leads, Reachable, LeastTo, WantedWord, LeastWanted}
use Rattle.walk.specs.Graph.Leads.{stay, step}
use Rattle.walk.specs.Entry.{On, InOrder, ReachedBefore, Taken}
use Rattle.walk.specs.Walk.{Walked}
use Rattle.walk.proofs.Words.{before_longer, before_notafter, before_not, notafter_trans, notafter_more, notafter_both}
use Rattle.walk.proofs.Cells.{used_le}

-- one edge more
pub leads_more : {G : LabelledGraph} {x y z l : ℕ} {w : Word} → Leads G x w y → G.goes y l ≡ Some z → Leads G x (w ++ l ∷ []) z
leads_more stay e = step e stay
leads_more (step d r) e = step d (leads_more r e)

-- a node has one least word
pub least_one : {G : LabelledGraph} {x : ℕ} {u v : Word} → LeastTo G u x → LeastTo G v x → u ≡ v
least_one {u = u} {v = v} U V = notafter_both u v (U.least v V.leads) (V.least u U.leads)

-- a word u that leads to x has been taken into account: x stands before place h with a word that is not after u, or the word of place h is not after u
abbrev Covered : List ℕ → ℕ → ℕ → (ℕ → Word) → Word → ℕ → Type 0
Covered queue h tail word u x =
    ((i : ℕ) × (i < h) × (get_or queue i 0 ≡ x) × NotAfter (word i) u) ⊎ ((h < tail) × NotAfter (word h) u)

-- the search is at place h
module _ {G : LabelledGraph} {links queue : List ℕ} {h tail : ℕ} (W : Walked G links queue h 1 tail) (within : h ≤ tail) where
  rises : (j : ℕ) → h ≤ j → j < tail → NotAfter (W.entries.word h) (W.entries.word j)
  rises j p q = elim (cases_order h j) [ inl e ↦ inl (ap W.entries.word e) | inr d ↦ elim d [ inl b ↦ inr (W.entries.rising h j b q) | inr b ↦ absurd (let z : ⊥ = omega arith in z) ] ]

  cover_begin : Covered queue h tail W.entries.word [] G.start
  cover_begin =
      elim (cases_lt 0 h) [ inl p ↦ inl (0, p, W.entries.first, inl W.entries.empty) | inr p ↦ inr (omega (arith, W.entries.some), inl (ap W.entries.word (omega arith) ∙ W.entries.empty)) ]

  cover_step : (u : Word) (x k y : ℕ) → Covered queue h tail W.entries.word u x → G.goes x k ≡ Some y → Covered queue h tail W.entries.word (u ++ k ∷ []) y
  cover_step u x k y (inl c) g =
      let i = c.0 in
      let g' : G.goes (get_or queue i 0) k ≡ Some y = rw c.2 g in
      let r = W.followed i k y (omega (arith, c.1)) (inl c.1) g' in
      let j = r.0 in
      let n : NotAfter (W.entries.word j) (u ++ k ∷ []) = notafter_trans _ _ _ r.3 (notafter_more (W.entries.word i) u k c.3) in
      elim (cases_lt j h) [ inl p ↦ inl (j, p, r.2, n) | inr p ↦ inr (omega (arith, r.1), notafter_trans _ _ _ (rises j p r.1) n) ]
  cover_step u x k y (inr c) g = inr (c.0, notafter_trans _ _ _ c.1 (inr (before_longer u k)))

  cover_on : (u : Word) {x y : ℕ} {w : Word} → Covered queue h tail W.entries.word u x → Leads G x w y → Covered queue h tail W.entries.word (u ++ w) y
  cover_on u c stay = rw append-nil c
  cover_on u c (step {x} {l} {y} {z} {w} e r) = rw (← append_assoc u (l ∷ []) w) (cover_on (u ++ l ∷ []) (cover_step u x l y c e) r)

  cover : (v : Word) {x : ℕ} → Leads G G.start v x → Covered queue h tail W.entries.word v x
  cover v r = cover_on [] cover_begin r

  -- a wanted word is not before the word of place h, and there is such a place
  cover_wanted : (v : Word) → WantedWord G v → (h < tail) × NotAfter (W.entries.word h) v
  cover_wanted v b =
      elim (cover v b.1) [ inl c ↦ absurd (both_ways _ (W.unwanted c.0 c.1) (rw c.2 b.2)) | inr c ↦ c ]

  pub none_wanted : tail ≤ h → (v : Word) → WantedWord G v → ⊥
  none_wanted p v b = omega (arith, (cover_wanted v b).0)

  pub least_wanted : h < tail → true ≡ G.wanted (get_or queue h 0) → LeastWanted G (W.entries.word h)
  least_wanted p b = record { is_wanted = (get_or queue h 0, W.entries.leads h p, sym b); least = λ v c. (cover_wanted v c).1 }

  same_place : (i j : ℕ) → i < tail → j < tail → get_or queue i 0 ≡ get_or queue j 0 → i ≡ j
  same_place i j a b e =
      elim (cases_order i j) [ inl o ↦ o | inr o ↦ elim o [ inl p ↦ absurd (W.entries.once i j p b e) | inr p ↦ absurd (W.entries.once j i p a (sym e)) ] ]

  -- the word of a place that was taken is the least one of its node
  least_to : (i : ℕ) → i < h → LeastTo G (W.entries.word i) (get_or queue i 0)
  least_to i p =
      record {
        leads = W.entries.leads i (omega arith);
        least = λ v r. elim (cover v r) [
          | inl c ↦ subst (λ k. NotAfter (W.entries.word k) v) (same_place c.0 i (omega (arith, c.1)) (omega arith) c.2) c.3
          | inr c ↦ inr (before_notafter (W.entries.word i) (W.entries.word h) v (W.entries.rising i h p c.0) c.1)
        ];
      }

  front : length (take h queue) ≡ h
  front = length-take-le h queue (omega (arith, W.entries.counted, W.entries.cells, W.entries.room, used_le links))

  -- the nodes that were taken are those of the places before h
  taken_place : (x : ℕ) → On (take h queue) x → (i : ℕ) × (i < h) × (get_or queue i 0 ≡ x)
  taken_place x o =
      let p : o.0 < h = omega (arith, o.1, front) in
      (o.0, p, sym (get_or-take h queue o.0 0 p) ∙ o.2)

  place_taken : (x i : ℕ) → i < h → get_or queue i 0 ≡ x → On (take h queue) x
  place_taken x i p e = (i, omega (arith, front), get_or-take h queue i 0 p ∙ e)

  in_order : InOrder G (take h queue)
  in_order =
      record {
        least = λ i a. let p : i < h = omega (arith, front) in (W.entries.word i, rw (get_or-take h queue i 0 p) (least_to i p));
        rising = λ i j a b u v U V.
            let q : j < h = omega (arith, front) in
            let p : i < h = omega arith in
            let m : LeastTo G u (get_or queue i 0) = rw (get_or-take h queue i 0 p) at U in
            let n : LeastTo G v (get_or queue j 0) = rw (get_or-take h queue j 0 q) at V in
            rw (least_one m (least_to i p), least_one n (least_to j q)) (W.entries.rising i j a (omega arith));
        once = λ i j a b e.
            let p : i < h = omega (arith, front) in
            let q : j < h = omega (arith, front) in
            same_place i j (omega arith) (omega arith) (sym (get_or-take h queue i 0 p) ∙ e ∙ get_or-take h queue j 0 q);
      }

  taken_unwanted : (x : ℕ) → On (take h queue) x → G.wanted x ≡ false
  taken_unwanted x o = let r = taken_place x o in rw (← r.2) (W.unwanted r.0 r.1)

  -- at the queue's end every reachable node was taken
  pub all_taken : tail ≤ h → Taken G (Reachable G)
  all_taken p =
      record {
        taken = take h queue;
        ordered = in_order;
        only = λ x o. let r = taken_place x o in (W.entries.word r.0, subst (Leads G G.start (W.entries.word r.0)) r.2 (W.entries.leads r.0 (omega (arith, r.1))));
        every = λ x r. elim (cover r.0 r.1) [ inl c ↦ place_taken x c.0 c.1 c.2 | inr c ↦ absurd (let z : ⊥ = omega (arith, c.0) in z) ];
        unwanted = taken_unwanted;
      }

  -- at a place of the queue the nodes whose least words come before its word were taken
  pub before_taken : h < tail → Taken G (ReachedBefore G (W.entries.word h))
  before_taken p =
      record {
        taken = take h queue;
        ordered = in_order;
        only = λ x o. let r = taken_place x o in (W.entries.word r.0, subst (LeastTo G (W.entries.word r.0)) r.2 (least_to r.0 r.1), W.entries.rising r.0 h r.1 p);
        every = λ x r. elim (cover r.0 r.1.leads) [ inl c ↦ place_taken x c.0 c.1 c.2 | inr c ↦ absurd (before_not r.0 (W.entries.word h) r.2 c.1) ];
        unwanted = taken_unwanted;
      }
