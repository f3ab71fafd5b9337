-- Names matched beforehand. Assumes nothing.
use Rattle.std.proofs.Common.{◌≡◌, ℕ, zero, suc, ◌+◌, ◌-◌, ◌<◌, min, Bool, true, false, cond, ◌&&◌, eqb, leb, ◌⊎◌, List, [], ◌∷◌, length, get_or, take, Some, sym, refl, ap, ◌∙◌, ⊎_elim, add-zero, arith}
use lib.Bits.{bit_and}
use Rattle.std.proofs.lemmas.List.{take_all, get_or_past}
use Rattle.std.proofs.lemmas.Bool.{eqb-true, ne_eqb, lt-leb, cond-false}
use Rattle.symbols.specs.NameRows.{name_same}
use Rattle.symbols.specs.declared.name_rows.NameRow.{NameRow}
use Rattle.models.specs.declared.tables.Sets.{Sets}
use Rattle.models.specs.Stepping.{set_after}
use Rattle.tables.specs.Places.{bit, sought, row_of}
use Rattle.editor.specs.declared.matching.Namesakes.{Namesakes}
use Rattle.editor.specs.Matching.{markers, meets, match_table, lowest}
use Rattle.editor.proofs.Bits.{bit-bit_and}

pub length-markers : (i n : ℕ) → length (markers i n) ≡ n
length-markers i zero = refl
length-markers i (suc n) = ap suc (length-markers (i + 1) n)

-- the lowest bit of both sets is what is sought of the markers
lowest_sought : (row : ℕ) (a : Namesakes) (i n : ℕ) → lowest n i (bit_and row a.positions) ≡ sought meets row a i (markers i n)
lowest_sought row a i zero = refl
lowest_sought row a i (suc n) =
    ap (λ b. cond b (Some (i + 1)) (lowest n (i + 1) (bit_and row a.positions))) (bit-bit_and row a.positions i)
    ∙ ap (cond (bit row i && bit a.positions i) (Some (i + 1))) (lowest_sought row a (i + 1) n)

module _ (s : Sets) (rows : List ℕ) (n : ℕ) where
  pub states_are : (match_table s rows n).states ≡ min 64 n + 1
  states_are = let l = length-markers 0 (min 64 n) in omega arith

  pub match_goes : (x : ℕ) (a : Namesakes) → lowest (min 64 n) 0 (bit_and (row_of s.first rows (min 64 n) x) a.positions) ≡ (match_table s rows n).goes x a
  match_goes x a =
      let l = length-markers 0 (min 64 n) in
      let w : min 64 (length (markers 0 (min 64 n))) ≡ min 64 n = omega arith in
      lowest_sought (row_of s.first rows (min 64 n) x) a 0 (min 64 n)
      ∙ sym (ap (sought meets (row_of s.first rows (min 64 n) x) a 0) (take_all 64 (markers 0 (min 64 n)) (omega arith)))
      ∙ ap (λ i. sought meets (row_of s.first rows i x) a 0 (take 64 (markers 0 (min 64 n)))) (sym w)

-- the set of a name leads where the name does
pub matched : (row : ℕ) (a : NameRow) (set : Namesakes) (i : ℕ) (xs : List NameRow) → ((k : ℕ) (d : NameRow) → k < length xs → bit set.positions (i + k) ≡ name_same (get_or xs k d) a)
    → sought meets row set i (markers i (length xs)) ≡ sought name_same row a i xs
matched row a set i [] h = refl
matched row a set i (x ∷ xs) h =
    let here : bit set.positions i ≡ name_same x a = ap (bit set.positions) (sym (add-zero i)) ∙ h 0 x (omega arith) in
    let more : sought meets row set (i + 1) (markers (i + 1) (length xs)) ≡ sought name_same row a (i + 1) xs =
    matched row a set (i + 1) xs (λ k d l. let z : i + 1 + k ≡ i + suc k = omega arith in ap (bit set.positions) z ∙ h (suc k) d (omega arith)) in
    ap (λ b. cond (bit row i && b) (Some (i + 1)) (sought meets row set (i + 1) (markers (i + 1) (length xs)))) here
    ∙ ap (cond (bit row i && name_same x a) (Some (i + 1))) more

-- what may come after a state is the row of the state
pub after_row : (s : Sets) (rows : List ℕ) (n x : ℕ) → set_after s rows n x ≡ row_of s.first rows n x
after_row s rows n zero = refl
after_row s rows n (suc x) =
    let e : suc x - 1 ≡ x = omega arith in
    sym (cond-false (eqb (suc x) 0) _ _ (ne_eqb (suc x) 0 (λ z. omega arith)) ∙ ap (λ i. cond (leb (suc x) n) (get_or rows i 0) 0) e)
