-- The walk over sets of positions is the walk over names. Assumes nothing.
use Rattle.std.proofs.Common.{◌≡◌, ℕ, ◌+◌, ◌-◌, ◌*◌, ◌/◌, ◌%◌, ◌<◌, ◌≤◌, min, Bool, true, false, cond, not, ◌&&◌, leb, List, length, get_or, take, Some, None, Option, unwrap_or, sym, refl, ap, ◌∙◌, subst, arith}
use mathlib.Core.Path.{fun_ext}
use Rattle.std.proofs.lemmas.List.{take_all, get_or_default, get_or-take}
use Rattle.symbols.specs.NameRows.{name_same}
use Rattle.symbols.specs.declared.name_rows.NameRow.{NameRow}
use Rattle.language.specs.Meaning.{symbol_at}
use Rattle.language.proofs.Symbols.{symbol_some, symbol_is}
use Rattle.models.specs.declared.tables.Sets.{Sets}
use Rattle.models.specs.Stepping.{positions, can_follow, can_end}
use Rattle.tables.specs.Tables.{Table}
use Rattle.tables.specs.Places.{bit, sought, row_of, ending_of, place_table}
use Rattle.walk.specs.Graph.{LabelledGraph}
use Rattle.product.specs.Pairs.{after, product}
use Rattle.product.specs.PairsSound.{follows_parts}
use Rattle.editor.specs.declared.matching.Namesakes.{Namesakes}
use Rattle.editor.specs.Matching.{Marks, MarksAll, markers, meets, match_table}
use Rattle.editor.proofs.Matched.{length-markers, matched}

-- the product graph of a model of n positions and a reader whose start is 0, with w states and endings e; `g` tells the reader's state after a position
abbrev graph : Sets → List ℕ → ℕ → ℕ → (ℕ → Bool) → (ℕ → ℕ → ℕ) → LabelledGraph
graph s rows n w e g =
    record {
      nodes = (n + 1) * (w + 1);
      labels = n;
      start = 0;
      goes = λ v y. cond (can_follow s rows n (v / (w + 1)) y) (Some (y * (w + 1) + g (v % (w + 1)) y)) None;
      wanted = λ v. leb (v / (w + 1)) n && (can_end s (v / (w + 1)) && not (e (v % (w + 1))));
    }

cond_same : (b : Bool) (p q : ℕ) → (b ≡ true → p ≡ q) → cond b (Some p) None ≡ cond b (Some q) None
cond_same true p q h = ap Some (h refl)
cond_same false p q h = refl

-- only positions matter
same_graph : (s : Sets) (rows : List ℕ) (n w : ℕ) (e : ℕ → Bool) (g h : ℕ → ℕ → ℕ) → ((x y : ℕ) → 1 ≤ y → y ≤ n → g x y ≡ h x y) → graph s rows n w e g ≡ graph s rows n w e h
same_graph s rows n w e g h same =
    let q : (λ (v y : ℕ). cond (can_follow s rows n (v / (w + 1)) y) (Some (y * (w + 1) + g (v % (w + 1)) y)) None) ≡ (λ (v y : ℕ). cond (can_follow s rows n (v / (w + 1)) y) (Some (y * (w + 1) + h (v % (w + 1)) y)) None) =
    fun_ext (λ v. fun_ext (λ y. cond_same (can_follow s rows n (v / (w + 1)) y) _ _ (λ f.
    let p = follows_parts s rows n (v / (w + 1)) y f in ap (λ i. y * (w + 1) + i) (same (v % (w + 1)) y p.some p.most)))) in
    ap (λ (f : ℕ → ℕ → Option ℕ). record { nodes = (n + 1) * (w + 1); labels = n; start = 0; goes = f; wanted = λ v. leb (v / (w + 1)) n && (can_end s (v / (w + 1)) && not (e (v % (w + 1)))) }) q

module _ (s : Sets) (rows : List ℕ) (sets : List Namesakes) (firsts : List NameRow) (t : Sets) (next : List ℕ) (names : List NameRow)
    (even : length sets ≡ length firsts) (few : length names ≤ 64) (marks : MarksAll sets firsts names) where
  abbrev by_sets : Table Namesakes
  by_sets = match_table t next (length names)

  abbrev by_names : Table NameRow
  by_names = place_table name_same names next t.first t.last t.nullable

  width : min 64 (length (markers 0 (min 64 (length names)))) ≡ min 64 (length names)
  width = let l = length-markers 0 (min 64 (length names)) in omega arith

  -- a set leads where its name does
  goes_same : (x : ℕ) (a : NameRow) (set : Namesakes) → Marks set.positions a names → by_sets.goes x set ≡ by_names.goes x a
  goes_same x a set m =
      let n : min 64 (length names) ≡ length names = omega arith in
      let l = length-markers 0 (min 64 (length names)) in
      let row = row_of t.first next (min 64 (length names)) x in
      ap (λ i. sought meets (row_of t.first next i x) set 0 (take 64 (markers 0 (min 64 (length names))))) width
      ∙ ap (sought meets row set 0) (take_all 64 (markers 0 (min 64 (length names))) (omega arith))
      ∙ ap (λ i. sought meets row set 0 (markers 0 i)) n
      ∙ matched row a set 0 names (λ k d h. let z : 0 + k ≡ k = omega arith in ap (bit set.positions) z ∙ m k d h)
      ∙ sym (ap (sought name_same row a 0) (take_all 64 names few))

  -- the symbol of a position is what stands there
  found : {X : Type 0} (xs : List X) (y : ℕ) (a : X) → 1 ≤ y → y ≤ length xs → symbol_at xs y ≡ Some (get_or xs (y - 1) a)
  found xs y a h k =
      let j : y ≡ y - 1 + 1 = omega arith in
      let l : y - 1 < length xs = omega arith in
      ap (symbol_at xs) j ∙ symbol_is xs (y - 1) (get_or xs (y - 1) a) l (get_or_default xs (y - 1) a (get_or xs (y - 1) a) l)

  after_same : (x y : ℕ) → 1 ≤ y → y ≤ positions firsts → after by_sets x (symbol_at sets y) ≡ after by_names x (symbol_at firsts y)
  after_same x y h k =
      let a = (symbol_some firsts y h (omega arith)).0 in
      let z = (symbol_some sets y h (omega arith)).0 in
      let m = marks (y - 1) z a (omega arith) in
      ap (after by_sets x) (found sets y z h (omega arith))
      ∙ ap (λ o. unwrap_or o by_sets.states) (goes_same x (get_or firsts (y - 1) a) (get_or sets (y - 1) z) m)
      ∙ ap (λ i. unwrap_or (by_names.goes x (get_or firsts (y - 1) a)) (i + 1)) width
      ∙ sym (ap (after by_names x) (found firsts y a h (omega arith)))

  pub same_walk : product s rows sets by_sets ≡ product s rows firsts by_names
  same_walk =
      let g : ℕ → ℕ → ℕ = λ x y. after by_sets x (symbol_at sets y) in
      let n : positions sets ≡ positions firsts = omega arith in
      ap (λ i. graph s rows i by_sets.states by_sets.ending g) n
      ∙ ap (λ i. graph s rows (positions firsts) (i + 1) (ending_of t.nullable t.last i) g) width
      ∙ same_graph s rows (positions firsts) by_names.states by_names.ending g (λ x y. after by_names x (symbol_at firsts y)) after_same

-- a beginning of the sets serves as well
pub front_marks : (sets : List Namesakes) (firsts names : List NameRow) (n : ℕ) → length firsts ≤ n → MarksAll sets firsts names → MarksAll (take n sets) firsts names
front_marks sets firsts names n h m j s d l =
    subst (λ x. Marks x.positions (get_or firsts j d) names) (sym (get_or-take n sets j s (omega arith))) (m j s d l)
