-- Writes to the cells of a place. Assumes nothing.
use Rattle.std.proofs.Common.{◌≡◌, ℕ, ◌+◌, ◌*◌, ◌≤◌, List, ◌++◌, length, take, drop, sym, refl, ap, ◌∙◌, ⊎_elim, arith}
use borrow.Rule.Slice.PartMut.{put_mid}
use Rattle.std.proofs.lemmas.List.{append_assoc, length-take-le, length-take, length-drop, drop-append-le, take-append-drop, drop-drop, length-append, drop_at, take_at, take_all, drop-take}
use Rattle.std.proofs.lemmas.Slice.{take-put_mid_below, drop-put_mid}
use Rattle.std.proofs.lemmas.Bool.{cases_lt}
use Rattle.language.specs.Words.{Expr}
use Rattle.models.specs.declared.tables.Sets.{Sets}
use Rattle.models.specs.TablesOf.{Made}
use Rattle.shelf.specs.Places.{front, placed}

-- the items in the first cells of a place are a part of the list
pub placed_is : {X : Type 0} (p : ℕ) (cells items : List X) → placed cells p items ≡ put_mid (p * 64) (length items) cells items
placed_is p cells items = ap (λ l. take (p * 64) cells ++ (items ++ l)) (sym (drop-drop (length items) (p * 64) cells))

pub put_first : {X : Type 0} (p from n : ℕ) (cells items ys : List X) → p * 64 ≡ from → n ≡ length items → ys ≡ items → put_mid from n cells ys ≡ placed cells p items
put_first p from n cells items ys e f g =
    ap (λ i. put_mid i n cells ys) (sym e) ∙ ap (λ i. put_mid (p * 64) i cells ys) f ∙ ap (put_mid (p * 64) (length items) cells) g ∙ sym (placed_is p cells items)

-- the items first in a part, and the rest of the part as it was: that is the items in the list, and the rest of it as it was
pub put_placed : {X : Type 0} (a k : ℕ) (cells items ys : List X) → a + k ≤ length cells → length items ≤ k → ys ≡ items ++ drop (length items) (take k (drop a cells)) → put_mid a k cells ys ≡ take a cells ++ (items ++ drop (a + length items) cells)
put_placed a k cells items ys h n e =
    let rest = drop a cells in
    let fits : length items ≤ length (take k rest) = simp (length-take, length-drop) (omega arith) in
    let joined : drop (length items) (take k rest) ++ drop k rest ≡ drop (a + length items) cells =
    sym (drop-append-le (length items) (take k rest) (drop k rest) fits) ∙ ap (drop (length items)) (take-append-drop k rest) ∙ drop-drop (length items) a cells in
    ap (λ l. take a cells ++ (l ++ drop k rest)) e
    ∙ ap (λ l. take a cells ++ l) (append_assoc items (drop (length items) (take k rest)) (drop k rest) ∙ ap (λ l. items ++ l) joined)

-- a part as it was leaves the list as it was
pub put_same : {X : Type 0} (a k : ℕ) (cells ys : List X) → ys ≡ take k (drop a cells) → put_mid a k cells ys ≡ cells
put_same a k cells ys e =
    ap (λ l. take a cells ++ (l ++ drop k (drop a cells))) e ∙ ap (λ l. take a cells ++ l) (take-append-drop k (drop a cells)) ∙ take-append-drop a cells

-- the rows that are made in a part of the list
pub made_placed : (a k n : ℕ) (cells new : List ℕ) (s : Sets) (e : Expr) (d : Made s n e (take k (drop a cells)) new) → a + k ≤ length cells → n ≤ k
    → put_mid a k cells new ≡ take a cells ++ (d.rows ++ drop (a + length d.rows) cells)
made_placed a k n cells new s e d h le =
    let long : length (take k (drop a cells)) ≡ k = simp (length-take, length-drop) (omega arith) in
    let all : take (length (take k (drop a cells))) d.rows ≡ d.rows = take_all _ d.rows (omega (arith, d.even)) in
    put_placed a k cells d.rows new h (omega (arith, d.even))
    (d.after ∙ ap (λ l. l ++ drop n (take k (drop a cells))) all ∙ ap (λ j. d.rows ++ drop j (take k (drop a cells))) (sym d.even))

-- what stands in the cells of places after a load at p
module _ {X : Type 0} (cells items : List X) (p : ℕ) (room : p * 64 + 64 ≤ length cells) (few : length items ≤ 64) where
  pub length_placed : length (placed cells p items) ≡ length cells
  length_placed = simp (length-append, length-take, length-drop) (omega arith)

  pub front_placed : front (placed cells p items) p (length items) ≡ items
  front_placed =
      ap (take (length items)) (drop_at (take (p * 64) cells) (items ++ drop (p * 64 + length items) cells) (p * 64) (length-take-le (p * 64) cells (omega arith)))
      ∙ take_at items (drop (p * 64 + length items) cells) (length items) refl

  pub front_other : (q n : ℕ) → (q ≡ p → ⊥) → n ≤ 64 → front (placed cells p items) q n ≡ front cells q n
  front_other q n ne le =
      ⊎_elim
      (λ below. let h : q * 64 + n ≤ p * 64 = omega arith in let k : p * 64 ≤ length cells = omega arith in
      ap (λ l. take n (drop (q * 64) l)) (placed_is p cells items)
      ∙ sym (drop-take (q * 64) n (put_mid (p * 64) (length items) cells items))
      ∙ ap (drop (q * 64)) (take-put_mid_below (p * 64) (length items) cells items (q * 64 + n) h k)
      ∙ drop-take (q * 64) n cells)
      (λ above. let h : p * 64 + length items ≤ q * 64 = omega arith in let k : p * 64 ≤ length cells = omega arith in
      ap (λ l. take n (drop (q * 64) l)) (placed_is p cells items) ∙ ap (take n) (drop-put_mid (p * 64) (length items) cells items (q * 64) h k refl))
      (cases_lt q p)
