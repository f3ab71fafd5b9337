-- The symbols of a word's first positions, and the line that shows them. Assumes nothing.
use Rattle.std.proofs.Common.{◌≡◌, ℕ, zero, suc, ◌+◌, ◌-◌, ◌<◌, ◌≤◌, min, true, ltb, List, [], ◌∷◌, ◌++◌, length, get_or, take, Some, None, Ok, Err, Result, IsOk, MatchResult, codes, decimal, Option, sym, refl, ap, ◌∙◌, subst, inl, inr, arith}
use Rattle.std.proofs.lemmas.List.{length-append, length-take, take_more, take-take, get_or_default, get_or-take}
use Rattle.std.proofs.lemmas.Fmt.{length-decimal-le}
use Rattle.std.proofs.lemmas.Bool.{cond_both}
use Rattle.symbols.specs.NameRows.{row_bytes, name_same, name_sized}
use Rattle.symbols.specs.declared.name_rows.NameRow.{NameRow}
use Rattle.language.specs.Meaning.{Model, Formed, symbol_at, before, spelled}
use Rattle.language.proofs.Symbols.{symbol_is, symbol_some, Within}
use Rattle.product.proofs.Astray.{marked_within}
use Rattle.models.specs.declared.tables.Sets.{Sets}
use Rattle.shelf.specs.declared.records.Summary.{Summary}
use Rattle.shelf.specs.Places.{State, has, record_at, cells, cells_at, cells_of, Holds, HoldsAt}
use Rattle.book.specs.Line.{symbols_shown, forms_shown, dots, places_shown, verdict_shown, line_of, Places, LineRefused}
use Rattle.book.proofs.Shown.{places_most, forms_most, shown_most}
use Rattle.faults.specs.declared.Fault.{Fault}
use Rattle.slip.specs.Printed.{Judged, included, not_included}
use Rattle.slip.specs.Desks.{Found, InRange, Short}

-- the symbol of one more position
before_push : (o : Option NameRow) (s t : List NameRow) → before o (s ++ t) ≡ before o s ++ t
before_push None s t = refl
before_push (Some a) s t = refl

spelled_push : (xs : List NameRow) (w : List ℕ) (x : ℕ) (a : NameRow) → symbol_at xs x ≡ Some a → spelled xs (w ++ x ∷ []) ≡ spelled xs w ++ a ∷ []
spelled_push xs [] x a e = ap (λ o. before o []) e
spelled_push xs (y ∷ w) x a e = ap (before (symbol_at xs y)) (spelled_push xs w x a e) ∙ before_push (symbol_at xs y) (spelled xs w) (a ∷ [])

pub spelled_more : (xs rows : List NameRow) (word : List ℕ) (i x : ℕ) (d : NameRow) → InRange (length xs) word → i < length word → x ≡ get_or word i 0
    → rows ≡ spelled xs (take i word) → rows ++ get_or xs (x - 1) d ∷ [] ≡ spelled xs (take (i + 1) word)
spelled_more xs rows word i x d within h p e =
    let a = get_or xs (x - 1) d in
    let r = within i h in
    let j : x - 1 < length xs = omega (arith, r.0, r.1) in
    let o : x - 1 + 1 ≡ get_or word i 0 = omega (arith, r.0) in
    let s : symbol_at xs (get_or word i 0) ≡ Some a = ap (symbol_at xs) (sym o) ∙ symbol_is xs (x - 1) a j (get_or_default xs (x - 1) d a j) in
    ap (λ (t : List NameRow). t ++ a ∷ []) e ∙ sym (ap (spelled xs) (take_more word i 0 h) ∙ spelled_push xs (take i word) (get_or word i 0) a s)

module _ (xs : List NameRow) where
  -- the first symbols are those of the first positions
  spelled_take : (w : List ℕ) (k : ℕ) → Within name_same (length xs) w → take k (spelled xs w) ≡ spelled xs (take k w)
  spelled_take [] zero h = refl
  spelled_take [] (suc k) h = refl
  spelled_take (x ∷ w) zero h = refl
  spelled_take (x ∷ w) (suc k) h =
      let a = symbol_some xs x h.0.0 h.0.1 in
      ap (λ o. take (suc k) (before o (spelled xs w))) a.1 ∙ ap (λ (s : List NameRow). a.0 ∷ s) (spelled_take w k h.1) ∙ ap (λ o. before o (spelled xs (take k w))) (sym a.1)

  within_at : (w : List ℕ) → Within name_same (length xs) w → (k : ℕ) → k < length w → (1 ≤ get_or w k 0) × (get_or w k 0 ≤ length xs)
  within_at [] h k l = absurd (omega arith)
  within_at (x ∷ w) h zero l = h.0
  within_at (x ∷ w) h (suc k) l = within_at w h.1 k (omega arith)

  in_range_take : (w : List ℕ) (n : ℕ) → Within name_same (length xs) w → InRange (length xs) (take n w)
  in_range_take w n h k l =
      let i = length-take n w in
      let r = within_at w h k (omega arith) in
      let e : get_or (take n w) k 0 ≡ get_or w k 0 = get_or-take n w k 0 (omega arith) in
      (omega (arith, r.0), omega (arith, r.1))

module _ (m n : Model NameRow) (F : Formed m) (word : List ℕ) where
  -- the positions that a verdict shows have symbols
  pub found_range : (v : Option ℕ) → Found m n v word → InRange (length m.symbols) (take (symbols_shown v) word)
  found_range None f = λ k l. absurd (omega (arith, l))
  found_range (Some l) f =
      let w = f.0 in
      let e : take (min l 8) word ≡ take (min l 8) w = sym (take-take (min l 8) l word (omega arith)) ∙ ap (take (min l 8)) f.3 in
      subst (InRange (length m.symbols)) (sym e) (in_range_take m.symbols w (min l 8) (marked_within name_same m F w f.1.marked))

  -- the word that was found is no longer than the list that it stands in
  pub found_short : (v : Option ℕ) → Found m n v word → length word ≡ 4290 → Short v
  found_short None f e = tt
  found_short (Some l) f e = let a = length-take l word in let b = ap length f.3 in omega (arith, f.2)

  -- the line of a verdict with the symbols that it shows is that with all symbols of its word
  pub found_judged : (p q : ℕ) (v : Option ℕ) (rows : List NameRow) → Found m n v word → rows ≡ spelled m.symbols (take (symbols_shown v) word)
      → (s : List NameRow) × Judged m n v s × (line_of row_bytes p q v rows ≡ line_of row_bytes p q v s)
  found_judged p q None rows f e = ([], included f, refl)
  found_judged p q (Some l) rows f e =
      let w = f.0 in
      let s = spelled m.symbols w in
      let c = min l 8 in
      let z : take c word ≡ take c w = sym (take-take c l word (omega arith)) ∙ ap (take c) f.3 in
      let t : rows ≡ take c s = e ∙ ap (spelled m.symbols) z ∙ sym (spelled_take m.symbols w c (marked_within name_same m F w f.1.marked)) in
      let u : take c rows ≡ take c s = ap (take c) t ∙ take-take c c s (omega arith) in
      (s, not_included f.1 f.2 refl, ap (λ (r : List NameRow). places_shown p q ++ verdict_shown row_bytes (Some l) r) u)

-- the symbols that the reader of a place reads from are those of its model
cells_symbols : (b : _) (found : Option Summary) (ss : List NameRow) (ns : List ℕ) (p : ℕ) (m : Model NameRow) → b ≡ true → HoldsAt name_same found ss ns p (Some m) → (cells_at b found ss ns p).symbols ≡ m.symbols
cells_symbols b None ss ns p m e h = absurd h
cells_symbols b (Some k) ss ns p m e h = ap (λ c. (cells_at c (Some k) ss ns p).symbols) e ∙ h.1.tables.symbols

pub reader_symbols : (s : State NameRow) (p : ℕ) (m : Model NameRow) (xs : List NameRow) (rows : List ℕ) (sets : Sets) → cells xs rows sets ≡ cells_of s p → has s p ≡ true → Holds name_same s p (Some m) → xs ≡ m.symbols
reader_symbols s p m xs rows sets e b h = ap (λ c. c.symbols) e ∙ cells_symbols (has s p) (record_at s.shelf p) s.symbols s.numbers p m b h

dots_most : (l : ℕ) → length (dots l) ≤ 4
dots_most l = cond_both (ltb 8 l) (codes " ...") [] (λ (s : List ℕ). length s ≤ 4) (λ e. omega arith) (λ e. omega arith)

verdict_most : (v : Option ℕ) (symbols : List NameRow) → Short v → length symbols ≤ 8 → length (verdict_shown row_bytes v symbols) ≤ 305
verdict_most None symbols h k = omega arith
verdict_most (Some l) symbols h k =
    let f = forms_shown row_bytes symbols in
    let a = length-append (decimal l) (codes " symbols:" ++ (f ++ (dots l ++ (10 ∷ [])))) in
    let b = length-append f (dots l ++ (10 ∷ [])) in
    let c = length-append (dots l) (10 ∷ []) in
    let d = forms_most row_bytes name_sized symbols in
    let e = dots_most l in
    let g = length-decimal-le 4 l (omega arith) (omega arith) (omega arith) in
    omega arith

-- no line has more than 320 bytes
line_most : (p q : ℕ) (v : Option ℕ) (symbols : List NameRow) → Places p q → Short v → length (line_of row_bytes p q v symbols) ≤ 320
line_most p q v symbols h k =
    let a = places_most p q h in
    let c = shown_most v in
    let t = length-take (symbols_shown v) symbols in
    let b = verdict_most v (take (symbols_shown v) symbols) k (omega arith) in
    let l = length-append (places_shown p q) (verdict_shown row_bytes v (take (symbols_shown v) symbols)) in
    omega arith

-- a line is not refused
pub line_stands : (p q : ℕ) (v : Option ℕ) (symbols : List NameRow) (f : Fault) → Places p q → Short v → symbols_shown v ≤ length symbols → LineRefused row_bytes p q v symbols 320 f → ⊥
line_stands p q v symbols f h k e (inl r) = omega (arith, h.0, r.0)
line_stands p q v symbols f h k e (inr (inl r)) = omega (arith, h.1, r.1)
line_stands p q v symbols f h k e (inr (inr (inl r))) = omega (arith, r.1)
line_stands p q v symbols f h k e (inr (inr (inr r))) = omega (arith, r.2, line_most p q v symbols h k)

-- a line is written
pub line_written : (p q : ℕ) (v : Option ℕ) (symbols : List NameRow) (r : Result ℕ Fault) (W : ℕ → Type 0) (K : Type 0) → Places p q → Short v → symbols_shown v ≤ length symbols
    → MatchResult r W (λ f. LineRefused row_bytes p q v symbols 320 f × K) → IsOk r
line_written p q v symbols (Ok n) W K h k e w = cc
line_written p q v symbols (Err f) W K h k e w = absurd (line_stands p q v symbols f h k e w.0)
