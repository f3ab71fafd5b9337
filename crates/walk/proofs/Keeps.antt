-- The steps of the search keep what `Walked` says.
use Rattle.std.proofs.Common.{◌≡◌, ℕ, zero, suc, ◌+◌, ◌<◌, ◌≤◌, false, cond, eqb, ◌≢◌, ◌⊎◌, List, [], ◌∷◌, ◌++◌, length, get_or, set, replicate, Some, None, sym, refl, ap, ◌∙◌, subst, inl, inr, arith, below_more}
use Rattle.std.proofs.lemmas.List.{length-set, length-replicate, get_or-set_same, get_or-set_other}
use Rattle.std.proofs.lemmas.Bool.{cases_lt, cases_eq, eq-eqb, ne_eqb, cond-true, cond-false}
use Rattle.walk.specs.Order.{Word, Before, NotAfter}
use Rattle.walk.specs.Graph.{LabelledGraph, Sound, Leads}
use Rattle.walk.specs.Graph.Leads.{stay}
use Rattle.walk.specs.Walk.{link_of, start_link, Traced, Followed, Linked, Entries, Walked, Entered}
use Rattle.walk.specs.Walk.Traced.{origin, from}
use Rattle.walk.proofs.Words.{before_trans, before_more, before_last, before_longer}
use Rattle.walk.proofs.Cells.{used_set, used_none, used_room, used_le, get_or_none}
use Rattle.walk.proofs.Minimal.{leads_more}

-- an edge that was followed before label l + 1 was followed before label l, or is that of label l
followed_split : (h l i k : ℕ) → Followed h (l + 1) i k → Followed h l i k ⊎ ((i ≡ h) × (k ≡ l))
followed_split h l i k (inl p) = inl (inl p)
followed_split h l i k (inr p) = elim (cases_lt k l) [ inl q ↦ inl (inr (p.0, q)) | inr q ↦ inr (p.0, omega (arith, p.1)) ]

-- the links lead from place i back to place 0
traced_fuel : {G : LabelledGraph} {links queue : List ℕ} {tail : ℕ} (E : Entries G links queue tail) → tail ≤ length queue → (n i : ℕ) → i < n → i < tail → Traced links queue i (E.word i)
traced_fuel E t zero i p q = absurd (let z : ⊥ = omega arith in z)
traced_fuel E t (suc n) i p q =
    elim (cases_eq i 0) [
      | inl e ↦ rw (e, E.empty) origin
      | inr e ↦
          (let s = E.linked i (omega arith) q in
          let r = traced_fuel E t n s.place (omega (arith, s.earlier)) (omega (arith, s.earlier)) in
          rw s.longer (from s.earlier (omega arith) (omega (arith, E.inside i q, E.cells)) s.link s.low r))
    ]

module _ {G : LabelledGraph} {links queue : List ℕ} {h l tail : ℕ} (W : Walked G links queue h l tail) where
  pub tail_room : tail ≤ G.nodes
  tail_room = omega (arith, W.entries.counted, W.entries.cells, used_le links)

  pub traces : (i : ℕ) → i < tail → Traced links queue i (W.entries.word i)
  traces i p = traced_fuel W.entries (omega (arith, tail_room, W.entries.room)) (suc i) i (omega arith) p

  -- the edge with label l leads nowhere new
  pub go_on : h < tail → ((y : ℕ) → G.goes (get_or queue h 0) l ≡ Some y → (j : ℕ) × (j < tail) × (get_or queue j 0 ≡ y) × NotAfter (W.entries.word j) (W.entries.word h ++ l ∷ [])) → Walked G links queue h (l + 1) tail
  go_on p f =
      record {
        entries = W.entries;
        below = λ q i r. before_trans _ _ _ (W.below q i r) (before_last (W.entries.word h) l (l + 1) (omega arith));
        followed = λ i k y q s g. elim (followed_split h l i k s) [ inl o ↦ W.followed i k y q o g | inr o ↦ (rw (o.0, o.1) (f y (rw (← o.0, ← o.1) g))) ];
        unwanted = W.unwanted;
      }

  pub skip : h < tail → G.goes (get_or queue h 0) l ≡ None → Walked G links queue h (l + 1) tail
  skip p e = go_on p (λ y g. absurd (let z : ◌≡◌ {A = ℕ} 0 1 = cc in let b : ⊥ = omega arith in b))

  -- the edge with label l leads to a node that was entered before
  pub seen : h < tail → (y : ℕ) → y < G.nodes → G.goes (get_or queue h 0) l ≡ Some y → (get_or links y 0 ≡ 0 → ⊥) → Walked G links queue h (l + 1) tail
  seen p y q g n = go_on p (λ y' g'. let e : y ≡ y' = cc in let r = W.entries.placed y q n in (r.0, r.1, r.2 ∙ e, inr (W.below p r.0 r.1)))

-- all labels of place h were tried
module _ {G : LabelledGraph} (S : Sound G) {links queue : List ℕ} {h tail : ℕ} (W : Walked G links queue h (G.labels + 1) tail) where
  pub next_place : h < tail → false ≡ G.wanted (get_or queue h 0) → Walked G links queue (h + 1) 1 tail
  next_place p b =
      record {
        entries = W.entries;
        below = λ q i r. before_trans _ _ _ (W.below p i r) (before_more (W.entries.word h) (W.entries.word (h + 1)) (G.labels + 1) 1 (W.entries.rising h (h + 1) (omega arith) q));
        followed = λ i k y q s g. W.followed i k y q (let b = S.labelled (get_or queue i 0) k y g in elim s [ inl o ↦ (elim (cases_lt i h) [ inl t ↦ inl t | inr t ↦ inr (omega arith, omega (arith, b)) ]) | inr o ↦ absurd (let z : ⊥ = omega (arith, b, o) in z) ]) g;
        unwanted = below_more (λ i. G.wanted (get_or queue i 0) ≡ false) h W.unwanted (sym b);
      }

-- a node y that was not entered before gets the queue's next place
module _ {G : LabelledGraph} {links queue : List ℕ} {h l tail y : ℕ} (W : Walked G links queue h l tail) (p : h < tail) (q : y < G.nodes)
    (few : l < 128) (named : 0 < l) (e : G.goes (get_or queue h 0) l ≡ Some y) (free : get_or links y 0 ≡ 0) where
  new_word : ℕ → Word
  new_word i = cond (eqb i tail) (W.entries.word h ++ l ∷ []) (W.entries.word i)

  links' : List ℕ
  links' = set links y (link_of h l)

  queue' : List ℕ
  queue' = set queue tail y

  word_old : (i : ℕ) → i < tail → new_word i ≡ W.entries.word i
  unfolding new_word
  word_old i a = cond-false (eqb i tail) _ _ (ne_eqb i tail (λ b. omega arith))

  word_end : new_word tail ≡ W.entries.word h ++ l ∷ []
  unfolding new_word
  word_end = cond-true (eqb tail tail) _ _ (eq-eqb tail tail refl)

  pub push_room : tail < length queue
  push_room = omega (arith, used_room links y (omega (arith, W.entries.cells)) free, W.entries.counted, W.entries.cells, W.entries.room)

  queue_old : (i : ℕ) → i < tail → get_or queue' i 0 ≡ get_or queue i 0
  unfolding queue'
  queue_old i a = get_or-set_other queue tail i y 0 (λ b. omega arith)

  queue_end : get_or queue' tail 0 ≡ y
  unfolding queue'
  queue_end = get_or-set_same queue tail y 0 push_room

  link_old : (x : ℕ) → x ≢ y → get_or links' x 0 ≡ get_or links x 0
  unfolding links'
  link_old x a = get_or-set_other links y x (link_of h l) 0 a

  link_end : get_or links' y 0 ≡ link_of h l
  unfolding links'
  link_end = get_or-set_same links y (link_of h l) 0 (omega (arith, W.entries.cells))

  other : (i : ℕ) → i < tail → get_or queue i 0 ≢ y
  other i a b = W.entries.marked i a (rw b free)

  link_kept : (i : ℕ) → i < tail → get_or links' (get_or queue' i 0) 0 ≡ get_or links (get_or queue i 0) 0
  link_kept i a = rw (queue_old i a) (link_old (get_or queue i 0) (other i a))

  linked_old : (i : ℕ) → 0 < i → i < tail → Linked links' queue' new_word i
  linked_old i z a =
      let s = W.entries.linked i z a in
      record {
        place = s.place;
        label = s.label;
        earlier = s.earlier;
        link = link_kept i a ∙ s.link;
        low = s.low;
        longer = word_old i a ∙ s.longer ∙ ap (λ w. w ++ s.label ∷ []) (sym (word_old s.place (omega (arith, s.earlier))));
      }

  linked_end : Linked links' queue' new_word tail
  linked_end =
      record {
        place = h;
        label = l;
        earlier = p;
        link = ap (λ x. get_or links' x 0) queue_end ∙ link_end;
        low = few;
        longer = word_end ∙ ap (λ w. w ++ l ∷ []) (sym (word_old h p));
      }

  placed_new : (x : ℕ) → x < G.nodes → (get_or links' x 0 ≡ 0 → ⊥) → (i : ℕ) × (i < tail + 1) × (get_or queue' i 0 ≡ x)
  placed_new x a b =
      elim (cases_eq x y) [ inl o ↦ (tail, omega arith, queue_end ∙ sym o) | inr o ↦ (let r = W.entries.placed x a (λ z. b (link_old x o ∙ z)) in (r.0, omega (arith, r.1), queue_old r.0 r.1 ∙ r.2)) ]

  followed_new : (i k x : ℕ) → i < tail + 1 → Followed h (l + 1) i k → G.goes (get_or queue' i 0) k ≡ Some x → (j : ℕ) × (j < tail + 1) × (get_or queue' j 0 ≡ x) × NotAfter (new_word j) (new_word i ++ k ∷ [])
  followed_new i k x a b g =
      let i< : i < tail = (elim b [ inl o ↦ omega arith | inr o ↦ omega (arith, o) ]) in
      let g' : G.goes (get_or queue i 0) k ≡ Some x = rw (queue_old i i<) at g in
      rw (word_old i i<) (elim (followed_split h l i k b) [
        | inl o ↦ (let r = W.followed i k x i< o g' in (r.0, omega (arith, r.1), queue_old r.0 r.1 ∙ r.2, rw (word_old r.0 r.1) r.3))
        | inr o ↦ (let m : y ≡ x = (let g'' : G.goes (get_or queue h 0) l ≡ Some x = rw (← o.0, ← o.1) g' in cc) in (tail, omega arith, queue_end ∙ m, inl (rw (word_end, o.0, o.1))))
      ])

  entries_new : Entries G links' queue' (tail + 1)
  unfolding links' queue'
  entries_new =
      record {
        word = new_word;
        cells = length-set links y (link_of h l) ∙ W.entries.cells;
        room = rw (length-set queue tail y) W.entries.room;
        counted = ap (λ n. n + 1) W.entries.counted ∙ sym (used_set links y (link_of h l) (omega (arith, W.entries.cells)) free (omega arith));
        some = omega arith;
        empty = word_old 0 W.entries.some ∙ W.entries.empty;
        first = queue_old 0 W.entries.some ∙ W.entries.first;
        inside = below_more (λ i. get_or queue' i 0 < G.nodes) tail (λ i a. rw (queue_old i a) (W.entries.inside i a)) (rw queue_end q);
        once = λ i j a c. below_more (λ j. i < j → get_or queue' i 0 ≡ get_or queue' j 0 → ⊥) tail (λ j b a. rw (queue_old i (omega arith), queue_old j b) (W.entries.once i j a b)) (λ a. rw (queue_old i a, queue_end) (other i a)) j c a;
        marked = below_more (λ i. get_or links' (get_or queue' i 0) 0 ≡ 0 → ⊥) tail (λ i a. rw (link_kept i a) (W.entries.marked i a)) (rw (queue_end, link_end) (λ z. omega arith));
        placed = placed_new;
        leads = below_more (λ i. Leads G G.start (new_word i) (get_or queue' i 0)) tail (λ i a. rw (word_old i a, queue_old i a) (W.entries.leads i a)) (rw (word_end, queue_end) (leads_more (W.entries.leads h p) e));
        linked = λ i z b. below_more (λ i. 0 < i → Linked links' queue' new_word i) tail (λ i a z. linked_old i z a) (λ z. linked_end) i b z;
        rising = λ i j a c. below_more (λ j. i < j → Before (new_word i) (new_word j)) tail (λ j b a. rw (word_old i (omega arith), word_old j b) (W.entries.rising i j a b)) (λ a. rw (word_old i a, word_end) (W.below p i a)) j c a;
      }

  pub push : Walked G (set links y (link_of h l)) (set queue tail y) h (l + 1) (tail + 1)
  unfolding links' queue' entries_new
  push =
      record {
        entries = entries_new;
        below = λ _. below_more (λ i. Before (new_word i) (new_word h ++ (l + 1) ∷ [])) tail (λ i a. rw (word_old i a, word_old h p) (before_trans _ _ _ (W.below p i a) (before_last (W.entries.word h) l (l + 1) (omega arith)))) (rw (word_end, word_old h p) (before_last (W.entries.word h) l (l + 1) (omega arith)));
        followed = followed_new;
        unwanted = λ i a. rw (queue_old i (omega arith)) (W.unwanted i a);
      }

-- what holds of 0 holds below 1
only : (P : ℕ → Type 0) → P 0 → (i : ℕ) → i < 1 → P i
only P z i a = let e : 0 ≡ i = omega arith in subst P e z

-- the search begins
begin : {G : LabelledGraph} (S : Sound G) (n : ℕ) (queue : List ℕ) → n ≡ G.nodes → G.nodes ≤ length queue → Walked G (set (replicate n 0) G.start start_link) (set queue 0 G.start) 0 1 1
begin {G = G} S n queue m r =
    let s = G.start in
    let zeros : List ℕ = replicate n 0 in
    let long : length zeros ≡ n = length-replicate n 0 in
    let queue_end : get_or (set queue 0 s) 0 0 ≡ s = get_or-set_same queue 0 s 0 (omega (arith, S.starts)) in
    let link_end : get_or (set zeros s start_link) s 0 ≡ start_link = get_or-set_same zeros s start_link 0 (omega (arith, S.starts)) in
    record {
      entries = record {
        word = λ _. [];
        cells = length-set zeros s start_link ∙ long ∙ m;
        room = rw (length-set queue 0 s) r;
        counted = sym (used_set zeros s start_link (omega (arith, S.starts)) (get_or_none n s) (omega arith) ∙ ap (λ k. k + 1) (used_none n));
        some = omega arith;
        empty = refl;
        first = queue_end;
        inside = only (λ i. get_or (set queue 0 s) i 0 < G.nodes) (rw queue_end S.starts);
        once = λ i j a b. absurd (let z : ⊥ = omega arith in z);
        marked = only (λ i. get_or (set zeros s start_link) (get_or (set queue 0 s) i 0) 0 ≡ 0 → ⊥) (rw (queue_end, link_end) (λ z. omega arith));
        placed = λ x a b. elim (cases_eq x s) [ inl e ↦ (0, omega arith, queue_end ∙ sym e) | inr e ↦ absurd (b (get_or-set_other zeros s x start_link 0 e ∙ get_or_none n x)) ];
        leads = only (λ i. Leads G s [] (get_or (set queue 0 s) i 0)) (rw queue_end stay);
        linked = λ i z a. absurd (let b : ⊥ = omega arith in b);
        rising = λ i j a b. absurd (let z : ⊥ = omega arith in z);
      };
      below = λ _ i _. before_longer [] 1;
      followed = λ i k y a b g. absurd (let c : ⊥ = (elim b [ inl o ↦ omega arith | inr o ↦ (let t = S.labelled _ k y g in omega (arith, o, t)) ]) in c);
      unwanted = λ i a. absurd (let b : ⊥ = omega arith in b);
    }

-- the search begins once the start is entered
pub begins : {G : LabelledGraph} (S : Sound G) (n : ℕ) {queue links' queue' : List ℕ} {tail' : ℕ} → n ≡ G.nodes → G.nodes ≤ length queue → Entered (replicate n 0) queue 0 G.start start_link links' queue' tail' → Walked G links' queue' 0 1 tail'
begins S n m r (inl o) = rw (o.1, o.2, o.3) (begin S n _ m r)
begins {G = G} S n m r (inr o) = absurd (o.0 (get_or_none n G.start))

-- what `enter` does keeps it
pub enters : {G : LabelledGraph} {links queue links' queue' : List ℕ} {h l tail tail' y : ℕ} (W : Walked G links queue h l tail) → h < tail → y < G.nodes → l < 128 → 0 < l → G.goes (get_or queue h 0) l ≡ Some y → Entered links queue tail y (link_of h l) links' queue' tail' → Walked G links' queue' h (l + 1) tail'
enters W p q few named e (inl o) =
    rw (o.1, o.2, o.3) (push W p q few named e o.0)
enters W p q few named e (inr o) =
    rw (o.1, o.2, o.3) (seen W p _ q e o.0)
