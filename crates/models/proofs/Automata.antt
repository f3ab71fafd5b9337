-- The tables of a model as an automaton are the model's.
use Rattle.std.proofs.Common.{◌≡◌, ℕ, zero, suc, ◌+◌, ◌-◌, ◌^◌, ◌<◌, ◌≤◌, min, Bool, true, ltb, ◌⊎◌, List, length, get_or, take, Some, None, sym, refl, ◌∙◌, subst, inl, inr, add-one, arith}
use Rattle.std.proofs.lemmas.List.{get_or_past, get_or-take, length-take}
use Rattle.std.proofs.lemmas.Bool.{lt-ltb, le-ltb, eqb-true, eq-eqb, cond-true, cond-false, and_parts, and_from, cases_lt}
use Rattle.language.specs.Sets.{Follow, Last}
use Rattle.language.specs.Meaning.{Model, body, symbol_at, like}
use Rattle.language.proofs.Whole.{whole_empty}
use Rattle.language.proofs.Exact.{first_begins, begins_first, last_ends, ends_last, follow_follows, follows_follow, empty_nullable}
use Rattle.language.proofs.Chains.{Step, End}
use Rattle.language.proofs.Symbols.{like_is, like_within}
use Rattle.language.proofs.Reading.{Goes}
use Rattle.models.specs.declared.tables.Sets.{Sets}
use Rattle.models.specs.Bitsets.{Bit, bit}
use Rattle.models.specs.TablesOf.{TablesOf}
use Rattle.models.specs.Stepping.{set_after, can_end, May, Steps}
use Rattle.models.proofs.Bitsets.{bit_within}

-- nothing comes after a state past the positions or the rows
pub next_none : (s : Sets) (rows : List ℕ) (n x : ℕ) → (x ≡ 0 → ⊥) → (n < x) ⊎ (length rows < x) → 0 ≡ set_after s rows n x
next_none s rows n zero h k = absurd (h refl)
next_none s rows n (suc x) h (inl k) = sym (cond-false _ _ _ (le-ltb x n (omega arith)))
next_none s rows n (suc x) h (inr k) =
    let z = get_or_past rows x 0 (omega arith) in
    elim (cases_lt x n) [ inl l ↦ sym (cond-true _ _ _ (lt-ltb x n l) ∙ z) | inr l ↦ sym (cond-false _ _ _ (le-ltb x n l)) ]

-- one of the first n symbols
pub like_taken : {S : Type 0} (same : S → S → Bool) (xs : List S) (n y : ℕ) (a b : S) → y < length (take n xs) → b ≡ get_or (take n xs) y b
    → like same (symbol_at xs (y + 1)) a ≡ same b a
like_taken same xs n y a b h e =
    let l = length-take n xs in
    like_is same xs y a b (omega arith) (e ∙ get_or-take n xs y b (omega arith))

-- the least position that the tables allow: `next` is the set of those that may come after the state x
module _ {S : Type 0} (same : S → S → Bool) (s : Sets) (rows : List ℕ) (xs : List S) (x : ℕ) (a : S) (next : ℕ) (e : next ≡ set_after s rows (length xs) x) where
  -- none of the first y positions may come next
  abbrev NoneBelow : ℕ → Type 0
  NoneBelow y = (k : ℕ) → k < y → Bit next k → like same (symbol_at xs (k + 1)) a ≡ true → ⊥

  past : (y z : ℕ) → NoneBelow y → May same s rows xs x a z → y + 1 ≤ z
  past y z none p =
      let i = like_within same xs z a p.1 in
      let q : z ≡ z - 1 + 1 = omega (arith, i.0) in
      elim (cases_lt (z - 1) y) [
        | inl h ↦ absurd (none (z - 1) h (subst (λ n. Bit n (z - 1)) (sym e) p.0) (subst (λ j. like same (symbol_at xs j) a ≡ true) q p.1))
        | inr h ↦ omega (arith, i.0)
      ]

  pub step_some : (y : ℕ) → NoneBelow y → Bit next y → like same (symbol_at xs (y + 1)) a ≡ true → Steps same s rows xs x a (Some (y + 1))
  step_some y none b l =
      let q : y ≡ y + 1 - 1 = omega arith in
      ((subst (λ j. Bit (set_after s rows (length xs) x) j) q (subst (λ n. Bit n y) e b), l), (λ z p. past y z none p))

  pub step_none : (y : ℕ) → NoneBelow y → next < 2 ^ 64 → min (length xs) 64 ≤ y → Steps same s rows xs x a None
  step_none y none below end z p =
      let i = like_within same xs z a p.1 in
      let w = bit_within 64 next (z - 1) below (subst (λ n. Bit n (z - 1)) (sym e) p.0) in
      let h = past y z none p in
      omega (arith, i.0, i.1)

module _ {S : Type 0} (same : S → S → Bool) (s : Sets) (rows : List ℕ) (xs : List S) (m : Model S) (t : TablesOf same s rows xs m) where
  row_at : (x : ℕ) → x < length m.symbols → set_after s rows (length m.symbols) (suc x) ≡ get_or rows x 0
  row_at x h = cond-true _ _ _ (lt-ltb x (length m.symbols) h)

  bit_step : (x k : ℕ) → x ≤ length m.symbols → Bit (set_after s rows (length m.symbols) x) k → Step (body m) x (k + 1)
  bit_step zero k h b = begins_first (body m) (k + 1) ((t.sets.begin k).0 b)
  bit_step (suc x) k h b =
      let f = (t.sets.follow x (omega arith) k).0 (subst (λ a. Bit a k) (row_at x (omega arith)) b) in
      subst (λ i. Follow (body m) i (k + 1)) (add-one x) (follows_follow (body m) (x + 1) (k + 1) f)

  step_bit : (x k : ℕ) → x ≤ length m.symbols → Step (body m) x (k + 1) → Bit (set_after s rows (length m.symbols) x) k
  step_bit zero k h p = (t.sets.begin k).1 (first_begins (body m) (k + 1) p)
  step_bit (suc x) k h p =
      let f = follow_follows (body m) (x + 1) (k + 1) (subst (λ i. Follow (body m) i (k + 1)) (sym (add-one x)) p) in
      subst (λ a. Bit a k) (sym (row_at x (omega arith))) ((t.sets.follow x (omega arith) k).1 f)

  -- by the tables a position may come next exactly when it may in the model
  pub may_goes : (x y : ℕ) (a : S) → x ≤ length m.symbols → May same s rows xs x a y → Goes same m x a y
  may_goes x y a h p =
      let q = subst (λ l. May same s rows l x a y) t.symbols p in
      let i = like_within same m.symbols y a q.1 in
      let e : y - 1 + 1 ≡ y = omega (arith, i.0) in
      (subst (Step (body m) x) e (bit_step x (y - 1) h q.0), q.1)

  pub goes_may : (x y : ℕ) (a : S) → x ≤ length m.symbols → Goes same m x a y → May same s rows xs x a y
  goes_may x y a h p =
      let i = like_within same m.symbols y a p.1 in
      let e : y ≡ y - 1 + 1 = omega (arith, i.0) in
      let q : May same s rows m.symbols x a y = (step_bit x (y - 1) h (subst (Step (body m) x) e p.0), p.1) in
      subst (λ l. May same s rows l x a y) (sym t.symbols) q

  -- a word may end in a state exactly when it may in the model
  pub ends_end : (x : ℕ) → x ≤ length m.symbols → can_end s x ≡ true → End (body m) x
  ends_end zero h b = empty_nullable (body m) (t.sets.null.0 b)
  ends_end (suc x) h b =
      subst (Last (body m)) (add-one x) (ends_last (body m) (x + 1) ((t.sets.end x).0 (eqb-true _ 1 (and_parts (ltb x 64) (bit s.last x) b).1)))

  pub end_ends : (x : ℕ) → x ≤ length m.symbols → End (body m) x → can_end s x ≡ true
  end_ends zero h b = t.sets.null.1 (whole_empty (body m) b)
  end_ends (suc x) h b =
      let few = t.formed.few in
      and_from (ltb x 64) (bit s.last x) (lt-ltb x 64 (omega arith))
      (eq-eqb _ 1 ((t.sets.end x).1 (last_ends (body m) (x + 1) (subst (Last (body m)) (sym (add-one x)) b))))
