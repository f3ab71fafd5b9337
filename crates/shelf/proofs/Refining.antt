-- Each call is the plain shelf's, place by place. Assumes nothing.
use Rattle.std.proofs.Common.{◌≡◌, ℕ, ◌+◌, ◌*◌, ◌<◌, ◌≤◌, Bool, true, false, cond, eqb, List, [], ◌∷◌, ◌++◌, length, get_or, take, drop, replicate, is_some, Some, None, Ok, Err, Option, Result, sym, refl, ap, ◌∙◌, subst, ⊎_elim, arith, rules}
use borrow.Rule.Slice.PartMut.{put_mid}
use Rattle.std.proofs.lemmas.List.{get_or_past, get_or-replicate, length-replicate}
use Rattle.std.proofs.lemmas.Option.{cond_some}
use Rattle.std.proofs.lemmas.Bool.{eq-eqb, ne_eqb, cases_eq, cases_lt, both_ways, false≢true}
use Rattle.faults.specs.declared.Fault.{Fault}
use Rattle.faults.specs.declared.Fault.TheVariants as fault
use Rattle.symbols.specs.Kinds.{KindLaws}
use Rattle.language.specs.Meaning.{Model, body}
use Rattle.models.specs.declared.tables.Sets.{Sets}
use Rattle.models.specs.declared.trials.Trial.{Trial}
use Rattle.models.specs.TablesOf.{SetsOf}
use Rattle.models.specs.Told.{Flawed, Studied}
use Rattle.models.specs.Machine.{no_sets}
use Rattle.tables.specs.Words.{stays, steps, Takes}
use Rattle.shelf.specs.declared.records.Summary.{Summary}
use Rattle.shelf.specs.Places.{State, room, front, placed, record_at, has, Kept, HoldsAt, Holds, Cells, cells, cells_at, cells_of, table_from, table_of}
use Rattle.shelf.specs.Calls.{Done, Judges, LoadEnds, TrialEnds, TakesJust, states_of, taken_at, withdraw_ends, after_load, after_withdraw, Others, Unchanged, WithdrawWrites, Withdraws, Put, LoadWrites, Loads, TriesAt, Tries, Refines}
use Rattle.shelf.proofs.Cells.{length_placed, front_placed, front_other, made_placed}
use Rattle.shelf.proofs.Reading.{takes_word, word_takes}

pub room_cells : (a b p : ℕ) → room a b p ≡ true → (p * 64 + 64 ≤ a) × (p * 64 + 64 ≤ b)
room_cells a b p e = (search rules, search rules)

pub room_below : (a b p : ℕ) → room a b p ≡ true → p < 16
room_below a b p e = search rules

pub ok_err : {A : Type 0} (u : A) (f : Fault) → Ok u ≡ Err f → ⊥
ok_err u f e = let z : ◌≡◌ {A = ℕ} 0 1 = cc in omega arith

-- where the first cell of a place is found, the place exists
pub first_found : (here : Bool) (p from : ℕ) (o : Option ℕ) → o ≡ cond here (Some (p * 64)) None → o ≡ Some from → (here ≡ true) × (p * 64 ≡ from)
first_found here p from o e f = cond_some here (p * 64) from (sym e ∙ f)

-- where the place stands, it exists and is taken
pub stood : (here full : Bool) (p : ℕ) (u : Unit {0}) → Ok u ≡ withdraw_ends here full p → (here ≡ true) × (full ≡ true)
stood false full p u e = absurd (ok_err u (fault.NoPlace p) e)
stood true false p u e = absurd (ok_err u (fault.Vacant p) e)
stood true true p u e = (refl, refl)

module _ {S : Type 0} (same : S → S → Bool) where
  -- a new shelf holds nothing
  all_empty : (n p : ℕ) → ◌≡◌ {A = Option Summary} (get_or (replicate n None) p None) None
  all_empty n p = ⊎_elim (λ h. get_or-replicate n p None None h) (λ h. get_or_past (replicate n None) p None (simp length-replicate h)) (cases_lt p n)

  pub new_holds : (s : State S) → s.shelf.records ≡ replicate 16 None → (p : ℕ) → Holds same s p None
  new_holds s e p = subst (λ x. HoldsAt same x s.symbols s.numbers p None) (sym (ap (λ l. get_or l p None) e ∙ all_empty 16 p)) tt

  pub full_is : (found : Option Summary) (ss : List S) (ns : List ℕ) (q : ℕ) (k : Option (Model S)) → HoldsAt same found ss ns q k → is_some found ≡ is_some k
  full_is None ss ns q None h = refl
  full_is None ss ns q (Some m) h = absurd h
  full_is (Some t) ss ns q None h = absurd h
  full_is (Some t) ss ns q (Some m) h = refl

  kept_as : {t : Summary} {xs ys : List S} {rs ss : List ℕ} {m : Model S} → xs ≡ ys → rs ≡ ss → Kept same t xs rs m → Kept same t ys ss m
  kept_as {t} {xs} {ys} {rs} {ss} {m} e f k = subst (λ l. Kept same t l ss m) e (subst (λ l. Kept same t xs l m) f k)

  -- the same record and the same cells hold the same
  moved : (found : Option Summary) (ss ss' : List S) (ns ns' : List ℕ) (q : ℕ) (k : Option (Model S)) → length ss' ≡ length ss → length ns' ≡ length ns → ((n : ℕ) → n ≤ 64 → front ss' q n ≡ front ss q n) → ((n : ℕ) → n ≤ 64 → front ns' q n ≡ front ns q n) → HoldsAt same found ss ns q k → HoldsAt same found ss' ns' q k
  moved None ss ss' ns ns' q None a b f g h = tt
  moved None ss ss' ns ns' q (Some m) a b f g h = h
  moved (Some t) ss ss' ns ns' q None a b f g h = h
  moved (Some t) ss ss' ns ns' q (Some m) a b f g h =
      (ap (λ x. room x (length ns') q) a ∙ ap (λ x. room (length ss) x q) b ∙ h.0, kept_as (sym (f t.count t.fits)) (sym (g t.count t.fits)) h.1)

  pub carried : (s t : State S) (q : ℕ) (k : Option (Model S)) → record_at t.shelf q ≡ record_at s.shelf q → length t.symbols ≡ length s.symbols → length t.numbers ≡ length s.numbers → ((n : ℕ) → n ≤ 64 → front t.symbols q n ≡ front s.symbols q n) → ((n : ℕ) → n ≤ 64 → front t.numbers q n ≡ front s.numbers q n) → Holds same s q k → Holds same t q k
  carried s t q k e a b f g h = subst (λ found. HoldsAt same found t.symbols t.numbers q k) (sym e) (moved _ _ _ _ _ q k a b f g h)

  unchanged : (s t : State S) → Unchanged s t → (q : ℕ) (k : Option (Model S)) → Holds same s q k → Holds same t q k
  unchanged s t w q k = carried s t q k (ap (λ l. get_or l q None) w.shelf) (ap length w.symbols) (ap length w.numbers) (λ n le. ap (λ l. front l q n) w.symbols) (λ n le. ap (λ l. front l q n) w.numbers)

  by_place : (s t : State S) (p : ℕ) (after : Option (Model S) → Option (Model S)) → ((k : Option (Model S)) → Holds same s p k → Holds same t p (after k)) → ((q : ℕ) (k : Option (Model S)) → (q ≡ p → ⊥) → Holds same s q k → Holds same t q k) → (q : ℕ) (k : Option (Model S)) → Holds same s q k → Holds same t q (cond (eqb q p) (after k) k)
  by_place s t p after here other q k h =
      ⊎_elim
      (λ e. subst (λ b. Holds same t q (cond b (after k) k)) (sym (eq-eqb q p e))
      (subst (λ x. Holds same t x (after k)) (sym e) (here k (subst (λ x. Holds same s x k) e h))))
      (λ ne. subst (λ b. Holds same t q (cond b (after k) k)) (sym (ne_eqb q p ne)) (other q k ne h))
      (cases_eq q p)

  load_done : (here full : Bool) (p : ℕ) (m : Model S) (u : Unit {0}) → LoadEnds same here full p m (Ok u) → (here ≡ true) × (length m.symbols ≤ 64)
  load_done false full p m u e = absurd (ok_err u (fault.NoPlace p) e)
  load_done true true p m u e = absurd (ok_err u (fault.Taken p) e)
  load_done true false p m u j = (refl, j.0.few)

  load_here : (s t : State S) (p : ℕ) (m : Model S) (r : Done) → LoadEnds same (has s p) (is_some (record_at s.shelf p)) p m r → LoadWrites same s p m r t → (k : Option (Model S)) → Holds same s p k → Holds same t p (after_load r m k)
  load_here s t p m (Ok u) e w k h =
      let f = load_done _ _ p m u e in
      let c = room_cells _ _ p f.0 in
      let few : length w.followers ≤ 64 = omega (arith, f.1, w.even) in
      let a : length t.symbols ≡ length s.symbols = ap length w.symbols ∙ length_placed s.symbols m.symbols p c.0 f.1 in
      let b : length t.numbers ≡ length s.numbers = ap length w.numbers ∙ length_placed s.numbers w.followers p c.1 few in
      let x : front t.symbols p w.kept.count ≡ m.symbols = ap (front t.symbols p) w.tells.count ∙ ap (λ l. front l p (length m.symbols)) w.symbols ∙ front_placed s.symbols m.symbols p c.0 f.1 in
      let y : front t.numbers p w.kept.count ≡ w.followers = ap (front t.numbers p) (w.tells.count ∙ sym w.even) ∙ ap (λ l. front l p (length w.followers)) w.numbers ∙ front_placed s.numbers w.followers p c.1 few in
      subst (λ found. HoldsAt same found t.symbols t.numbers p (Some m)) (sym w.here)
      (ap (λ x. room x (length t.numbers) p) a ∙ ap (λ x. room (length s.symbols) x p) b ∙ f.0, kept_as (sym x) (sym y) w.tells)
  load_here s t p m (Err x) e w k h = unchanged s t w p k h

  load_lengths : (s t : State S) (p : ℕ) (m : Model S) (r : Done) → LoadEnds same (has s p) (is_some (record_at s.shelf p)) p m r → LoadWrites same s p m r t → (length t.symbols ≡ length s.symbols) × (length t.numbers ≡ length s.numbers)
  load_lengths s t p m (Ok u) e w =
      let f = load_done _ _ p m u e in
      let c = room_cells _ _ p f.0 in
      (ap length w.symbols ∙ length_placed s.symbols m.symbols p c.0 f.1, ap length w.numbers ∙ length_placed s.numbers w.followers p c.1 (omega (arith, f.1, w.even)))
  load_lengths s t p m (Err x) e w = (ap length w.symbols, ap length w.numbers)

  load_other : (s t : State S) (p : ℕ) (m : Model S) (r : Done) → LoadEnds same (has s p) (is_some (record_at s.shelf p)) p m r → LoadWrites same s p m r t → (q : ℕ) (k : Option (Model S)) → (q ≡ p → ⊥) → Holds same s q k → Holds same t q k
  load_other s t p m (Ok u) e w q k ne =
      let f = load_done _ _ p m u e in
      let c = room_cells _ _ p f.0 in
      let l = load_lengths s t p m (Ok u) e w in
      carried s t q k (w.others q ne) l.0 l.1
      (λ n le. ap (λ l. front l q n) w.symbols ∙ front_other s.symbols m.symbols p c.0 f.1 q n ne le)
      (λ n le. ap (λ l. front l q n) w.numbers ∙ front_other s.numbers w.followers p c.1 (omega (arith, f.1, w.even)) q n ne le)
  load_other s t p m (Err x) e w q k ne = unchanged s t w q k

  pub load_refines : (s t : State S) (p : ℕ) (m : Model S) (r : Done) → Loads same s p m r t → Refines same s p (after_load r m) (λ k. LoadEnds same (has s p) (is_some k) p m r) t
  load_refines s t p m r d = record {
    content = by_place s t p (after_load r m) (load_here s t p m r d.ends d.writes) (load_other s t p m r d.ends d.writes);
    reply = λ k h. subst (λ b. LoadEnds same (has s p) b p m r) (full_is _ _ _ p k h) d.ends;
    symbols = (load_lengths s t p m r d.ends d.writes).0;
    numbers = (load_lengths s t p m r d.ends d.writes).1;
  }

  withdraw_here : (s t : State S) (p : ℕ) (r : Done) → WithdrawWrites s p r t → (k : Option (Model S)) → Holds same s p k → Holds same t p (after_withdraw r k)
  withdraw_here s t p (Ok u) w k h = subst (λ found. HoldsAt same found t.symbols t.numbers p None) (sym w.here) tt
  withdraw_here s t p (Err x) w k h = unchanged s t w p k h

  withdraw_other : (s t : State S) (p : ℕ) (r : Done) → WithdrawWrites s p r t → (q : ℕ) (k : Option (Model S)) → (q ≡ p → ⊥) → Holds same s q k → Holds same t q k
  withdraw_other s t p (Ok u) w q k ne = carried s t q k (w.others q ne) (ap length w.symbols) (ap length w.numbers) (λ n le. ap (λ l. front l q n) w.symbols) (λ n le. ap (λ l. front l q n) w.numbers)
  withdraw_other s t p (Err x) w q k ne = unchanged s t w q k

  withdraw_lengths : (s t : State S) (p : ℕ) (r : Done) → WithdrawWrites s p r t → (length t.symbols ≡ length s.symbols) × (length t.numbers ≡ length s.numbers)
  withdraw_lengths s t p (Ok u) w = (ap length w.symbols, ap length w.numbers)
  withdraw_lengths s t p (Err x) w = (ap length w.symbols, ap length w.numbers)

  pub withdraw_refines : (s t : State S) (p : ℕ) (r : Done) → Withdraws s p r t → Refines same s p (after_withdraw r) (λ k. r ≡ withdraw_ends (has s p) (is_some k) p) t
  withdraw_refines s t p r d = record {
    content = by_place s t p (after_withdraw r) (withdraw_here s t p r d.writes) (withdraw_other s t p r d.writes);
    reply = λ k h. d.ends ∙ ap (λ b. withdraw_ends (has s p) b p) (full_is _ _ _ p k h);
    symbols = (withdraw_lengths s t p r d.writes).0;
    numbers = (withdraw_lengths s t p r d.writes).1;
  }

  -- a model that was studied in the place's stretch of the numbers, and put into the place
  pub studied_put : (s t : State S) (p from k : ℕ) (m : Model S) (kept : Summary) (sets : Sets) (new : List ℕ) → has s p ≡ true → p * 64 ≡ from → k ≡ 64
      → Studied same m sets (take k (drop from s.numbers)) new → kept.count ≡ length m.symbols → kept.sets ≡ sets
      → record_at t.shelf p ≡ Some kept → Others s p t → t.symbols ≡ placed s.symbols p m.symbols → t.numbers ≡ put_mid from k s.numbers new → Put same s p m t
  studied_put s t p from k m kept sets new here at long d count own found others symbols numbers =
      let room = (room_cells _ _ p here).1 in
      let few = d.formed.few in
      record {
        kept = kept;
        followers = d.made.rows;
        even = d.made.even;
        tells = record {
          count = count;
          tables = record { formed = d.formed; clear = d.clear; symbols = refl; sets = subst (λ x. SetsOf x d.made.rows (length m.symbols) (body m)) (sym own) d.made.sets };
        };
        here = found;
        others = others;
        symbols = symbols;
        numbers = numbers
            ∙ made_placed from k (length m.symbols) s.numbers new sets (body m) d.made (omega arith) (omega arith)
            ∙ ap (λ i. take i s.numbers ++ (d.made.rows ++ drop (i + length d.made.rows) s.numbers)) (sym at);
      }

  pub load_ends : (here full : Bool) (p : ℕ) (m : Model S) (r : Done) → here ≡ true → full ≡ false → Judges same m r → LoadEnds same here full p m r
  load_ends here full p m r e f j = subst (λ b. LoadEnds same b full p m r) (sym e) (subst (λ b. LoadEnds same true b p m r) (sym f) j)

  -- a load that the model's flaw refuses
  pub load_refused : (s t : State S) (p : ℕ) (m : Model S) (f : Fault) → has s p ≡ true → is_some (record_at s.shelf p) ≡ false → Flawed same m f → Unchanged s t → Loads same s p m (Err f) t
  load_refused s t p m f here free flaw u = record { ends = load_ends (has s p) (is_some (record_at s.shelf p)) p m (Err f) here free flaw; writes = u }

  -- a trial at a place that stands
  try_says : (here : Bool) (found : Option Summary) (p : ℕ) (ss : List S) (ns : List ℕ) (word : List S) (r : Result Trial Fault) (k : Option (Model S))
      → TriesAt same here found p ss ns word r → HoldsAt same found ss ns p k → TrialEnds same here p k word r
  try_says false found p ss ns word r k d h = d
  try_says true None p ss ns word r None d h = d
  try_says true None p ss ns word r (Some m) d h = absurd h
  try_says true (Some t) p ss ns word r None d h = absurd h
  try_says true (Some t) p ss ns word (Ok v) (Some m) d h = d m h.1.tables
  try_says true (Some t) p ss ns word (Err f) (Some m) d h = absurd d

  pub try_refines : (s : State S) (p : ℕ) (word : List S) (r : Result Trial Fault) → Tries same s p word r → Refines same s p (λ k. k) (λ k. TrialEnds same (has s p) p k word r) s
  try_refines s p word r d = record {
    content = by_place s s p (λ k. k) (λ k h. h) (λ q k ne h. h);
    reply = λ k h. try_says (has s p) (record_at s.shelf p) p s.symbols s.numbers word r k d h;
    symbols = refl;
    numbers = refl;
  }

  -- the cells of a place that holds k have a symbol for each position
  states_at : (here : Bool) (found : Option Summary) (ss : List S) (ns : List ℕ) (p : ℕ) (k : Option (Model S)) → room (length ss) (length ns) p ≡ here → HoldsAt same found ss ns p k
      → (table_from same (cells_at here found ss ns p)).states ≡ states_of k
  states_at false None ss ns p None e h = refl
  states_at false None ss ns p (Some m) e h = absurd h
  states_at false (Some t) ss ns p None e h = absurd h
  states_at false (Some t) ss ns p (Some m) e h = absurd (both_ways _ e h.0)
  states_at true None ss ns p None e h = refl
  states_at true None ss ns p (Some m) e h = absurd h
  states_at true (Some t) ss ns p None e h = absurd h
  states_at true (Some t) ss ns p (Some m) e h =
      let l : length (front ss p t.count) ≡ length m.symbols = ap length h.1.tables.symbols in omega (arith, h.1.tables.formed.few)

  pub reader_states : (s : State S) (p : ℕ) (c : Cells S) → c ≡ cells_of s p → (k : Option (Model S)) → Holds same s p k → (table_from same c).states ≡ states_of k
  reader_states s p c e k h = ap (λ d. (table_from same d).states) e ∙ states_at (has s p) (record_at s.shelf p) s.symbols s.numbers p k refl h

  -- a table without symbols takes nothing
  none_takes : (word : List S) → Takes (table_from same (cells [] [] no_sets)) word → ⊥
  none_takes [] (z, stays, e) = false≢true e
  none_takes (a ∷ word) (z, steps g r, e) = let n : ◌≡◌ {A = ℕ} 0 1 = cc in omega arith

  pub missing_reads : (s : State S) (p : ℕ) → has s p ≡ false → ((table_of same s p).states ≡ 1) × TakesJust same None (table_of same s p)
  missing_reads s p e =
      let c : cells [] [] no_sets ≡ cells_of s p = sym (ap (λ b. cells_at b (record_at s.shelf p) s.symbols s.numbers p) e) in
      subst (λ d. ((table_from same d).states ≡ 1) × TakesJust same None (table_from same d)) c (refl, (λ word. (none_takes word, λ x. absurd x)))

  module _ {foreign : S → Bool} (laws : KindLaws same foreign) where
    table_takes : (here : Bool) (found : Option Summary) (ss : List S) (ns : List ℕ) (p : ℕ) (k : Option (Model S)) → room (length ss) (length ns) p ≡ here → HoldsAt same found ss ns p k
        → TakesJust same k (table_from same (cells_at here found ss ns p))
    table_takes false None ss ns p None e h word = (none_takes word, λ x. absurd x)
    table_takes false None ss ns p (Some m) e h word = absurd h
    table_takes false (Some t) ss ns p None e h word = absurd h
    table_takes false (Some t) ss ns p (Some m) e h word = absurd (both_ways _ e h.0)
    table_takes true None ss ns p None e h word = (none_takes word, λ x. absurd x)
    table_takes true None ss ns p (Some m) e h word = absurd h
    table_takes true (Some t) ss ns p None e h word = absurd h
    table_takes true (Some t) ss ns p (Some m) e h word =
        let d = h.1.tables in
        (takes_word same laws t.sets (front ns p t.count) (front ss p t.count) m d word, word_takes same laws t.sets (front ns p t.count) (front ss p t.count) m d word)

    pub reader_takes : (s : State S) (p : ℕ) (c : Cells S) → c ≡ cells_of s p → (k : Option (Model S)) → Holds same s p k → TakesJust same k (table_from same c)
    reader_takes s p c e k h = subst (λ d. TakesJust same k (table_from same d)) (sym e) (table_takes (has s p) (record_at s.shelf p) s.symbols s.numbers p k refl h)

-- the cells of a taken place, by where they begin and what is kept of it
pub reader_taken : {S : Type 0} (here : Bool) (found : Option Summary) (from : ℕ) (t : Summary) (k : ℕ) (ss : List S) (ns : List ℕ) (p : ℕ) → Ok (from, t) ≡ taken_at here found p → k ≡ t.count
    → cells (take k (drop from ss)) (take k (drop from ns)) t.sets ≡ cells_at here found ss ns p
reader_taken false found from t k ss ns p e g = absurd (ok_err _ (fault.NoPlace p) e)
reader_taken true None from t k ss ns p e g = absurd (ok_err _ (fault.Vacant p) e)
reader_taken true (Some u) from t k ss ns p e g =
    let q : ◌≡◌ {A = ℕ × Summary} (from, t) (p * 64, u) = cc in
    ap (λ j. cells (take j (drop from ss)) (take j (drop from ns)) t.sets) g
    ∙ ap (λ (x : ℕ × Summary). cells (take x.1.count (drop x.0 ss)) (take x.1.count (drop x.0 ns)) x.1.sets) q
