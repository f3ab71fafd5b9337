-- What every call keeps, whatever the cells of its place hold. Assumes nothing.
use Rattle.std.proofs.Common.{◌≡◌, ℕ, ◌+◌, ◌*◌, ◌≤◌, Bool, true, false, List, [], ◌++◌, length, get_or, take, drop, Ok, Err, Result, sym, refl, ap, ◌∙◌, subst, arith, is_some, Some, None, Option}
use borrow.Rule.Slice.PartMut.{put_mid}
use Rattle.std.proofs.lemmas.List.{drop-drop, length-take, length-drop}
use Rattle.std.proofs.lemmas.Slice.{take-put_mid_below, drop-put_mid}
use Rattle.faults.specs.declared.Layer.TheVariants.{Compare}
use Rattle.faults.specs.declared.Fault.{Fault}
use Rattle.faults.specs.declared.Fault.TheVariants as fault
use Rattle.language.specs.Meaning.{Model}
use Rattle.models.specs.declared.trials.Trial.{Trial}
use Rattle.tables.specs.Tables.{Table}
use Rattle.walk.specs.declared.Shortage.{Shortage}
use Rattle.walk.specs.declared.Shortage.TheVariants.{Work, Word as WordCells}
use Rattle.walk.specs.Graph.{LabelledGraph}
use Rattle.walk.specs.Answer.{Answer as Searches}
use Rattle.models.specs.Stepping.{positions}
use Rattle.product.specs.Pairs.{product}
use Rattle.product.specs.Compares.{verdict, Searched}
use Rattle.shelf.specs.declared.records.Summary.{Summary}
use Rattle.shelf.specs.Places.{State, room, front, placed, record_at, has}
use Rattle.shelf.specs.Calls.{Done, LoadEnds, withdraw_ends, Others, Unchanged, LoadWrites, WithdrawWrites, TriesAt}
use Rattle.shelf.proofs.Cells.{length_placed}
use Rattle.shelf.proofs.Refining.{room_cells}
use Rattle.comparison.specs.Answers.{Reply}
use Rattle.comparison.specs.declared.calls.Answer.TheVariants as answer
use Rattle.comparison.specs.Compares.{ComparesAt}
use Rattle.comparison.specs.Runs.{Request, loads, withdraws, tries, compares, answer_of_done, answer_of_trial, answer_of_compare, Memory, memory, Did, load, withdraw, try, compare, Untouched}
use Rattle.comparison.specs.Keeping.{SameOutside, RoomSays, AnswersAt, Keeps, SpoiledKeep}
use Rattle.comparison.proofs.Ending.{compares_length}
use Rattle.comparison.proofs.Answered.{load_done}

same_outside : {X : Type 0} (p : ℕ) (old new : List X) → new ≡ old → SameOutside p old new
same_outside p old new e = record { long = ap length e; below = ap (take (p * 64)) e; above = ap (drop (p * 64 + 64)) e }

-- items in the first cells of a place
module _ {X : Type 0} (p : ℕ) (old items new : List X) (room : p * 64 + 64 ≤ length old) (few : length items ≤ 64) (e : new ≡ placed old p items) where
  is_put : new ≡ put_mid (p * 64) (length items) old items
  is_put = e ∙ ap (λ l. take (p * 64) old ++ (items ++ l)) (sym (drop-drop (length items) (p * 64) old))

  placed_outside : SameOutside p old new
  placed_outside =
      let k : p * 64 ≤ length old = omega arith in
      record {
        long = ap length e ∙ length_placed old items p room few;
        below = ap (take (p * 64)) is_put ∙ take-put_mid_below (p * 64) (length items) old items (p * 64) (omega arith) k;
        above = ap (drop (p * 64 + 64)) is_put ∙ drop-put_mid (p * 64) (length items) old items (p * 64 + 64) (omega arith) k refl;
      }

done_refused : (f : Fault) → ◌≡◌ {A = Reply} (Ok answer.Done) (Err f) → ⊥
done_refused f e = let z : ◌≡◌ {A = ℕ} 0 1 = cc in omega arith

module _ {S : Type 0} (same : S → S → Bool) where
  untouched : (s t : State S) (work word : List ℕ) → Unchanged s t → Untouched same (memory s work word) (memory t work word)
  untouched s t work word w = record { shelf = w.shelf; symbols = w.symbols; numbers = w.numbers; work = refl; word = refl }

  unchanged_others : (s t : State S) (p : ℕ) → Unchanged s t → Others s p t
  unchanged_others s t p w q ne = ap (λ l. get_or l q None) w.shelf

  load_answers : (here : Bool) (found : Option Summary) (work word p : ℕ) (m : Model S) (r : Done) → LoadEnds same here (is_some found) p m r → AnswersAt same here found work word (loads p m) (answer_of_done r)
  load_answers false found work word p m r e = ap answer_of_done e
  load_answers true None work word p m r e = (r, refl, e)
  load_answers true (Some k) work word p m r e = ap answer_of_done e

  load_keeps : (s t : State S) (work word : List ℕ) (p : ℕ) (m : Model S) (r : Done) → LoadEnds same (has s p) (is_some (record_at s.shelf p)) p m r → LoadWrites same s p m r t
      → Keeps same (memory s work word) (loads p m) (answer_of_done r) (memory t work word)
  load_keeps s t work word p m (Ok u) e w =
      let d = load_done same (has s p) (is_some (record_at s.shelf p)) p m u e in
      let c = room_cells _ _ p d.0 in
      let few = d.1.few in
      record {
        answers = load_answers (has s p) (record_at s.shelf p) (length work) (length word) p m (Ok u) e;
        records = w.others;
        symbols = placed_outside p s.symbols m.symbols t.symbols c.0 few w.symbols;
        numbers = placed_outside p s.numbers w.followers t.numbers c.1 (omega (arith, few, w.even)) w.numbers;
        leaves = (refl, refl);
        refused = λ f q. absurd (done_refused f q);
      }
  load_keeps s t work word p m (Err g) e w =
      record {
        answers = load_answers (has s p) (record_at s.shelf p) (length work) (length word) p m (Err g) e;
        records = unchanged_others s t p w;
        symbols = same_outside p s.symbols t.symbols w.symbols;
        numbers = same_outside p s.numbers t.numbers w.numbers;
        leaves = (refl, refl);
        refused = λ f q. untouched s t work word w;
      }

  withdraw_answers : (here : Bool) (found : Option Summary) (work word p : ℕ) (r : Done) → r ≡ withdraw_ends here (is_some found) p → AnswersAt same here found work word (withdraws p) (answer_of_done r)
  withdraw_answers false found work word p r e = ap answer_of_done e
  withdraw_answers true None work word p r e = ap answer_of_done e
  withdraw_answers true (Some k) work word p r e = ap answer_of_done e

  withdraw_keeps : (s t : State S) (work word : List ℕ) (p : ℕ) (r : Done) → r ≡ withdraw_ends (has s p) (is_some (record_at s.shelf p)) p → WithdrawWrites s p r t
      → Keeps same (memory s work word) (withdraws p) (answer_of_done r) (memory t work word)
  withdraw_keeps s t work word p (Ok u) e w =
      record {
        answers = withdraw_answers (has s p) (record_at s.shelf p) (length work) (length word) p (Ok u) e;
        records = w.others;
        symbols = same_outside p s.symbols t.symbols w.symbols;
        numbers = same_outside p s.numbers t.numbers w.numbers;
        leaves = (w.symbols, w.numbers, refl, refl);
        refused = λ f q. absurd (done_refused f q);
      }
  withdraw_keeps s t work word p (Err g) e w =
      record {
        answers = withdraw_answers (has s p) (record_at s.shelf p) (length work) (length word) p (Err g) e;
        records = unchanged_others s t p w;
        symbols = same_outside p s.symbols t.symbols w.symbols;
        numbers = same_outside p s.numbers t.numbers w.numbers;
        leaves = (w.symbols, w.numbers, refl, refl);
        refused = λ f q. untouched s t work word w;
      }

  try_answers : (here : Bool) (found : Option Summary) (work word p : ℕ) (ss : List S) (ns : List ℕ) (w : List S) (r : Result Trial Fault) → TriesAt same here found p ss ns w r
      → AnswersAt same here found work word (tries p w) (answer_of_trial r)
  try_answers false found work word p ss ns w r d = ap answer_of_trial d
  try_answers true None work word p ss ns w r d = ap answer_of_trial d
  try_answers true (Some k) work word p ss ns w (Ok v) d = (v, refl)
  try_answers true (Some k) work word p ss ns w (Err f) d = absurd d

  nothing_changed : (s : Memory S) → Untouched same s s
  nothing_changed s = record { shelf = refl; symbols = refl; numbers = refl; work = refl; word = refl }

-- what the search of a graph of so many nodes answers and writes
module _ (G : LabelledGraph) (n : ℕ) (is : G.nodes ≡ n) (work word work' word' : List ℕ) where
  found_room : (found : Result (Option ℕ) Shortage) → Searches G work word work' word' found → RoomSays n (length work) (length word) (answer_of_compare (verdict found))
  found_room (Err (Work j)) a =
      record {
        short_work = λ h. ap (λ i. Err (fault.ShortList Compare i)) (a.needed ∙ ap (λ i. 2 * i) is);
        short_word = λ h k. absurd (let q = a.needed in let l = a.short in omega arith);
        enough = λ h k. absurd (let q = a.needed in let l = a.short in omega arith);
      }
  found_room (Err (WordCells j)) a =
      record {
        short_work = λ h. absurd (let q = a.room_work in omega arith);
        short_word = λ h k. ap (λ i. Err (fault.ShortList Compare i)) (a.needed ∙ is);
        enough = λ h k. absurd (let q = a.needed in let l = a.short in omega arith);
      }
  found_room (Ok None) a =
      record {
        short_work = λ h. absurd (let q = a.room_work in omega arith);
        short_word = λ h k. absurd (let q = a.room_word in omega arith);
        enough = λ h k. (None, refl);
      }
  found_room (Ok (Some j)) a =
      record {
        short_work = λ h. absurd (let q = a.room_work in omega arith);
        short_word = λ h k. absurd (let q = a.room_word in omega arith);
        enough = λ h k. (Some j, refl);
      }

  searched_room : (r : Result (Option ℕ) Fault) → Searched G work word work' word' r → RoomSays n (length work) (length word) (answer_of_compare r)
  searched_room r d = subst (λ x. RoomSays n (length work) (length word) (answer_of_compare x)) (sym d.1) (found_room d.0 d.2)

  -- the lists that a refusal leaves
  found_refused : (found : Result (Option ℕ) Shortage) (f : Fault) → Searches G work word work' word' found → answer_of_compare (verdict found) ≡ Err f → (work' ≡ work) × (word' ≡ word)
  found_refused (Err (Work j)) f a e = (a.same_work, a.same_word)
  found_refused (Err (WordCells j)) f a e = (a.same_work, a.same_word)
  found_refused (Ok None) f a e = absurd (let z : ◌≡◌ {A = ℕ} 0 1 = cc in omega arith)
  found_refused (Ok (Some j)) f a e = absurd (let z : ◌≡◌ {A = ℕ} 0 1 = cc in omega arith)

  searched_refused : (r : Result (Option ℕ) Fault) (f : Fault) → Searched G work word work' word' r → answer_of_compare r ≡ Err f → (work' ≡ work) × (word' ≡ word)
  searched_refused r f d e = found_refused d.0 f d.2 (ap answer_of_compare (sym d.1) ∙ e)

  -- only the beginning of the word list is written
  found_word : (found : Result (Option ℕ) Shortage) → Searches G work word work' word' found → (w : List ℕ) × (word' ≡ w ++ drop (length w) word)
  found_word (Err (Work j)) a = ([], a.same_word)
  found_word (Err (WordCells j)) a = ([], a.same_word)
  found_word (Ok None) a = ([], a.same_word)
  found_word (Ok (Some j)) a = (a.found, a.written ∙ ap (λ i. a.found ++ drop i word) (sym a.long))

module _ {S : Type 0} (t : Table S) where
  abbrev graph : Summary → ℕ → List S → List ℕ → LabelledGraph
  graph k p ss ns = product k.sets (front ns p k.count) (front ss p k.count) t

  -- a taken place that exists has a symbol for each position of its record
  pairs_are : (k : Summary) (p : ℕ) (ss : List S) (ns : List ℕ) → room (length ss) (length ns) p ≡ true → (graph k p ss ns).nodes ≡ (k.count + 1) * (t.states + 1)
  pairs_are k p ss ns e =
      let c = room_cells _ _ p e in
      let l : length (front ss p k.count) ≡ k.count = simp (length-take, length-drop) (omega (arith, c.0, k.fits)) in
      let q : positions (front ss p k.count) ≡ k.count = omega (arith, l, k.fits) in
      ap (λ n. (n + 1) * (t.states + 1)) q

  compare_answers : (same : S → S → Bool) (here : Bool) (found : Option Summary) (p : ℕ) (ss : List S) (ns work word work' word' : List ℕ) (r : Result (Option ℕ) Fault) → room (length ss) (length ns) p ≡ here
      → ComparesAt t here found p ss ns work word r work' word' → AnswersAt same here found (length work) (length word) (compares p t) (answer_of_compare r)
  compare_answers same false found p ss ns work word work' word' r e d = ap answer_of_compare d.0
  compare_answers same true None p ss ns work word work' word' r e d = ap answer_of_compare d.0
  compare_answers same true (Some k) p ss ns work word work' word' r e d = searched_room (graph k p ss ns) _ (pairs_are k p ss ns e) work word work' word' r d

  compare_refused : (here : Bool) (found : Option Summary) (p : ℕ) (ss : List S) (ns work word work' word' : List ℕ) (r : Result (Option ℕ) Fault) (f : Fault)
      → ComparesAt t here found p ss ns work word r work' word' → answer_of_compare r ≡ Err f → (work' ≡ work) × (word' ≡ word)
  compare_refused false found p ss ns work word work' word' r f d e = (d.1, d.2)
  compare_refused true None p ss ns work word work' word' r f d e = (d.1, d.2)
  compare_refused true (Some k) p ss ns work word work' word' r f d e = searched_refused (graph k p ss ns) _ refl work word work' word' r f d e

  compare_word : (here : Bool) (found : Option Summary) (p : ℕ) (ss : List S) (ns work word work' word' : List ℕ) (r : Result (Option ℕ) Fault)
      → ComparesAt t here found p ss ns work word r work' word' → (w : List ℕ) × (word' ≡ w ++ drop (length w) word)
  compare_word false found p ss ns work word work' word' r d = ([], d.2)
  compare_word true None p ss ns work word work' word' r d = ([], d.2)
  compare_word true (Some k) p ss ns work word work' word' r d = found_word (graph k p ss ns) _ refl work word work' word' d.0 d.2

module _ {S : Type 0} (same : S → S → Bool) where
  keeps : {s u : Memory S} {a : Request S} {r : Reply} → Did same s a r u → Keeps same s a r u
  keeps (load {s = s} {t = t} {work = work} {word = word} {p = p} {m = m} r d) = load_keeps same s t work word p m r d.ends d.writes
  keeps (withdraw {s = s} {t = t} {work = work} {word = word} {p = p} r d) = withdraw_keeps same s t work word p r d.ends d.writes
  keeps (try {s = s} {work = work} {word = word} {p = p} {w = w} r d) =
      record {
        answers = try_answers same (has s p) (record_at s.shelf p) (length work) (length word) p s.symbols s.numbers w r d;
        records = λ q ne. refl;
        symbols = same_outside p s.symbols s.symbols refl;
        numbers = same_outside p s.numbers s.numbers refl;
        leaves = refl;
        refused = λ f e. nothing_changed same (memory s work word);
      }
  keeps (compare {s = s} {work = work} {work' = work'} {word = word} {word' = word'} {p = p} {t = t} r H A d) =
      let found = record_at s.shelf p in
      record {
        answers = compare_answers t same (has s p) found p s.symbols s.numbers work word work' word' r refl d;
        records = λ q ne. refl;
        symbols = same_outside p s.symbols s.symbols refl;
        numbers = same_outside p s.numbers s.numbers refl;
        leaves = (refl, compares_length t s p work word work' word' r d, compare_word t (has s p) found p s.symbols s.numbers work word work' word' r d);
        refused = λ f e.
            (let q = compare_refused t (has s p) found p s.symbols s.numbers work word work' word' r f d e in
            record { shelf = refl; symbols = refl; numbers = refl; work = q.0; word = q.1 });
      }

  pub spoiled_keep : SpoiledKeep same
  spoiled_keep s u a r d = keeps d
