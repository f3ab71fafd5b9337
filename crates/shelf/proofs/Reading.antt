-- The table of a place that keeps a model takes just the words of the model. Assumes nothing.
use Rattle.std.proofs.Common.{◌≡◌, ℕ, zero, suc, ◌+◌, ◌-◌, ◌<◌, ◌≤◌, min, Bool, true, cond, ◌&&◌, ltb, leb, ◌⊎◌, List, [], ◌∷◌, length, get_or, take, Some, None, Option, sym, refl, ap, ◌∙◌, subst, inl, inr, zero-add, add-one, arith, MatchOption}
use Rattle.std.proofs.lemmas.List.{take_all, length-take}
use Rattle.std.proofs.lemmas.Bool.{eqb-true, eq-eqb, ne_eqb, le-leb, lt-leb, lt-ltb, le-ltb, cond-true, cond-false, cases_lt, both_ways}
use Rattle.symbols.specs.Kinds.{KindLaws}
use Rattle.language.specs.Meaning.{Model, symbol_at, like, Word}
use Rattle.language.proofs.Symbols.{like_within}
use Rattle.language.proofs.Reading.{Goes, goes_within, one_next, word_leads, leads_word}
use Rattle.language.proofs.Reading as reading
use Rattle.models.specs.declared.tables.Sets.{Sets}
use Rattle.models.specs.Bitsets.{Bit}
use Rattle.models.specs.TablesOf.{TablesOf}
use Rattle.models.specs.Stepping.{set_after, can_end, May, Steps}
use Rattle.models.proofs.Automata.{may_goes, goes_may, ends_end, end_ends}
use Rattle.models.proofs.Answered.{one_answer}
use Rattle.tables.specs.Tables.{Table}
use Rattle.tables.specs.Places.{bit, row_of, place_table}
use Rattle.tables.specs.Words.{Leads, stays, steps, Takes}
use Rattle.tables.specs.Least.{NoneBelow, Least}
use Rattle.tables.proofs.Leasts.{sought_is}

like_get_or : {S : Type 0} (same : S → S → Bool) (xs : List S) (k : ℕ) (a d : S) → k < length xs → like same (symbol_at xs (k + 1)) a ≡ same (get_or xs k d) a
like_get_or same [] k a d h = absurd (omega arith)
like_get_or same (b ∷ xs) zero a d h = refl
like_get_or same (b ∷ xs) (suc k) a d h =
    ap (λ j. like same (symbol_at (b ∷ xs) j) a) (add-one (suc k)) ∙ sym (ap (λ j. like same (symbol_at xs j) a) (add-one k)) ∙ like_get_or same xs k a d (omega arith)

-- the table goes by the sets and the followers
module _ {S : Type 0} (same : S → S → Bool) (s : Sets) (rows : List ℕ) (xs : List S) where
  abbrev T : Table S
  T = place_table same xs rows s.first s.last s.nullable

  abbrev row : ℕ → ℕ
  row x = row_of s.first rows (min 64 (length xs)) x

  row_next : (x : ℕ) → row x ≡ set_after s rows (length (take 64 xs)) x
  row_next zero = refl
  row_next (suc x) = cond-false _ _ _ (ne_eqb (suc x) 0 (λ q. omega arith)) ∙ «by» (cases_lt x (min 64 (length xs)))
    where
      «by» : (x < min 64 (length xs)) ⊎ (min 64 (length xs) ≤ x)
          → cond (leb (suc x) (min 64 (length xs))) (get_or rows (suc x - 1) 0) 0 ≡ cond (ltb x (length (take 64 xs))) (get_or rows x 0) 0
      «by» (inl h) =
          let l = length-take 64 xs in
          let j : suc x - 1 ≡ x = omega arith in
          cond-true _ _ _ (le-leb (suc x) (min 64 (length xs)) (omega arith)) ∙ ap (λ i. get_or rows i 0) j ∙ sym (cond-true _ _ _ (lt-ltb x (length (take 64 xs)) (omega arith)))
      «by» (inr h) =
          let l = length-take 64 xs in
          cond-false _ _ _ (lt-leb (suc x) (min 64 (length xs)) (omega arith)) ∙ sym (cond-false _ _ _ (le-ltb x (length (take 64 xs)) (omega arith)))

  -- a position that may come next is set in the row, and its symbol is the same
  may_fits : (x z : ℕ) (a : S) → May same s rows (take 64 xs) x a z
      → ((1 ≤ z) × (z ≤ length (take 64 xs))) × (bit (row x) (0 + (z - 1)) ≡ true) × (same (get_or (take 64 xs) (z - 1) a) a ≡ true)
  may_fits x z a p =
      let i = like_within same (take 64 xs) z a p.1 in
      let q : z ≡ z - 1 + 1 = omega (arith, i.0) in
      let b : bit (row x) (z - 1) ≡ true = eq-eqb _ 1 (subst (λ r. Bit r (z - 1)) (sym (row_next x)) p.0) in (
        i,
        subst (λ j. bit (row x) j ≡ true) (sym (zero-add (z - 1))) b,
        sym (like_get_or same (take 64 xs) (z - 1) a a (omega (arith, i.0, i.1))) ∙ ap (λ j. like same (symbol_at (take 64 xs) j) a) (sym q) ∙ p.1,
      )

  none_below : (x n z : ℕ) (a : S) → NoneBelow same (row x) a (take 64 xs) 0 n → z - 1 < n → May same s rows (take 64 xs) x a z → ⊥
  none_below x n z a none h p = let f = may_fits x z a p in both_ways _ (none (z - 1) h f.1 a) f.2

  -- where a symbol leads is the least position that may come next
  pub goes_steps : (x : ℕ) (a : S) → Steps same s rows (take 64 xs) x a (T.goes x a)
  goes_steps x a = «by» (T.goes x a) (sought_is same (row x) a 0 (take 64 xs))
    where
      «by» : (o : Option ℕ) → MatchOption o (NoneBelow same (row x) a (take 64 xs) 0 (length (take 64 xs))) (λ y. Least same (row x) a (take 64 xs) 0 y) → Steps same s rows (take 64 xs) x a o
      «by» None none = λ y p. let f = may_fits x y a p in none_below x (length (take 64 xs)) y a none (omega (arith, f.0.0, f.0.1)) p
      «by» (Some y) l =
          let q : y ≡ l.place + 1 = omega (arith, l.counted) in
          let j : 0 + l.place ≡ y - 1 = omega (arith, l.counted) in
          let b : Bit (row x) (y - 1) = eqb-true _ 1 (subst (λ i. bit (row x) i ≡ true) j l.fits.set) in (
            (subst (λ r. Bit r (y - 1)) (row_next x) b, ap (λ i. like same (symbol_at (take 64 xs) i) a) q ∙ like_get_or same (take 64 xs) l.place a a l.fits.within ∙ l.fits.like a),
            (λ z p. least z p (cases_lt z y)),
          )
        where
          least : (z : ℕ) → May same s rows (take 64 xs) x a z → (z < y) ⊎ (y ≤ z) → y ≤ z
          least z p (inl h) = let f = may_fits x z a p in absurd (none_below x l.place z a l.first (omega (arith, l.counted, f.0.0)) p)
          least z p (inr h) = h

  take_first : (k : ℕ) → k ≡ min 64 (length xs) → take k xs ≡ take 64 xs
  take_first k e = «by» (cases_lt 64 (length xs))
    where
      «by» : (64 < length xs) ⊎ (length xs ≤ 64) → take k xs ≡ take 64 xs
      «by» (inl h) = let q : k ≡ 64 = omega arith in ap (λ i. take i xs) q
      «by» (inr h) = take_all k xs (omega arith) ∙ sym (take_all 64 xs h)

  pub step_is : (k x : ℕ) (a : S) (o : Option ℕ) → k ≡ min 64 (length xs) → Steps same s rows (take k xs) x a o → o ≡ T.goes x a
  step_is k x a o e h =
      (one_answer same).step s rows (take 64 xs) x a o (T.goes x a) (subst (λ l. Steps same s rows l x a o) (take_first k e) h) (goes_steps x a)

  pub ending_may : (x : ℕ) → x ≤ min 64 (length xs) → T.ending x ≡ can_end s x
  ending_may zero h = refl
  ending_may (suc x) h =
      let j : suc x - 1 ≡ x = omega arith in
      cond-false _ _ _ (ne_eqb (suc x) 0 (λ q. omega arith))
      ∙ ap (λ b. b && bit s.last (suc x - 1)) (le-leb (suc x) (min 64 (length xs)) h)
      ∙ ap (bit s.last) j
      ∙ sym (ap (λ b. b && bit s.last x) (lt-ltb x 64 (omega arith)))

module _ {S : Type 0} (same : S → S → Bool) {foreign : S → Bool} (laws : KindLaws same foreign) (s : Sets) (rows : List ℕ) (xs : List S) (m : Model S) (t : TablesOf same s rows xs m) where
  abbrev table : Table S
  table = place_table same xs rows s.first s.last s.nullable

  pub even : length xs ≡ length m.symbols
  even = ap length t.symbols

  pub steps_at : (x : ℕ) (a : S) → Steps same s rows xs x a (table.goes x a)
  steps_at x a = subst (λ l. Steps same s rows l x a (table.goes x a)) (take_all 64 xs (omega (arith, even, t.formed.few))) (goes_steps same s rows xs x a)

  -- a symbol leads to a position exactly when it may come next in the model
  pub goes_step : (x y : ℕ) (a : S) → x ≤ length m.symbols → table.goes x a ≡ Some y → Goes same m x a y
  goes_step x y a h g = may_goes same s rows xs m t x y a h (subst (Steps same s rows xs x a) g (steps_at x a)).0

  pub step_goes : (x y : ℕ) (a : S) → x ≤ length m.symbols → Goes same m x a y → table.goes x a ≡ Some y
  step_goes x y a h g = «by» (table.goes x a) (steps_at x a)
    where
      «by» : (o : Option ℕ) → Steps same s rows xs x a o → o ≡ Some y
      «by» None none = absurd (none y (goes_may same s rows xs m t x y a h g))
      «by» (Some z) p = ap Some (one_next same m t.formed laws t.clear x z y a (may_goes same s rows xs m t x z a h p.0) g)

  pub leads_model : {x z : ℕ} {w : List S} → x ≤ length m.symbols → Leads table x w z → reading.Leads same m x w z
  leads_model h stays = refl
  leads_model h (steps {x = x} {y = y} {a = a} g r) =
      let p = goes_step x y a h g in (y, p, leads_model (goes_within same m t.formed x y a p) r)

  pub model_leads : (w : List S) (x z : ℕ) → x ≤ length m.symbols → reading.Leads same m x w z → Leads table x w z
  model_leads [] x z h l = subst (λ i. Leads table x [] i) l stays
  model_leads (a ∷ w) x z h l = steps (step_goes x l.0 a h l.1) (model_leads w l.0 z (goes_within same m t.formed x l.0 a l.1) l.2)

  pub leads_within : (w : List S) (x z : ℕ) → x ≤ length m.symbols → reading.Leads same m x w z → z ≤ length m.symbols
  leads_within [] x z h l = subst (λ i. i ≤ length m.symbols) l h
  leads_within (a ∷ w) x z h l = leads_within w l.0 z (goes_within same m t.formed x l.0 a l.1) l.2

  pub ending_at : (x : ℕ) → x ≤ length m.symbols → table.ending x ≡ can_end s x
  ending_at x h = ending_may same s rows xs x (omega (arith, even, t.formed.few))

  pub takes_word : (w : List S) → Takes table w → Word same m w
  takes_word w q =
      let l = leads_model (omega arith) q.1 in
      let le = leads_within w 0 q.0 (omega arith) l in
      leads_word same m t.formed w q.0 l (ends_end same s rows xs m t q.0 le (sym (ending_at q.0 le) ∙ q.2))

  pub word_takes : (w : List S) → Word same m w → Takes table w
  word_takes w d =
      let l = word_leads same m t.formed w d in
      let le = leads_within w 0 l.0 (omega arith) l.1 in
      (l.0, model_leads w 0 l.0 (omega arith) l.1, ending_at l.0 le ∙ end_ends same s rows xs m t l.0 le l.2)
