-- The model of a text is well-formed. Assumes nothing.
use Rattle.std.proofs.Common.{◌≡◌, ℕ, zero, suc, ◌+◌, List, [], ◌∷◌, ◌++◌, map, length, sym, refl, ap, ◌∙◌, subst, zero-add, arith, length-append}
use Rattle.std.proofs.lemmas.List.{length-map}
use Rattle.codes.specs.Tree.{Tree, empty, leaf, then, either, maybe, many, some, postfix, leaves}
use Rattle.codes.specs.Checked.{above, WellFormed}
use Rattle.symbols.specs.NameRows.{name_row}
use Rattle.language.specs.Meaning.{Formed}
use Rattle.grammar.proofs.Room.{room}
use Rattle.grammar.proofs.Built.{built}
use Rattle.verdicts.specs.Theorems.{TextsAreFormed}

above_append : (a k j : ℕ) → above a k ++ above (a + k) j ≡ above a (k + j)
above_append a zero j =
    let z : a + 0 ≡ a = omega arith in
    ap (λ (n : ℕ). above n j) z ∙ ap (above a) (sym (zero-add j))
above_append a (suc k) j =
    let z : a + suc k ≡ a + 1 + k = omega arith in
    let n : suc k + j ≡ suc (k + j) = omega arith in
    ap (λ (i : ℕ). (a + 1) ∷ (above (a + 1) k ++ above i j)) z ∙ ap (λ (l : List ℕ). (a + 1) ∷ l) (above_append (a + 1) k j) ∙ ap (above a) (sym n)

-- the tree with the number of each symbol in its place, counted on from a
abbrev counted : {A : Type 0} → ℕ → Tree A → Tree ℕ
counted a empty = empty
counted a (leaf x) = leaf (a + 1)
counted a (then l r) = then (counted a l) (counted (a + length (leaves l)) r)
counted a (either l r) = either (counted a l) (counted (a + length (leaves l)) r)
counted a (maybe e) = maybe (counted a e)
counted a (many e) = many (counted a e)
counted a (some e) = some (counted a e)

-- two parts under code c
both_codes : (c : ℕ) (u v w x : List ℕ) → u ≡ w → v ≡ x → u ++ (v ++ (c ∷ [])) ≡ w ++ (x ++ (c ∷ []))
both_codes c u v w x p q = cc

counted_codes : {A : Type 0} (a : ℕ) (x : Tree A) → postfix (counted a x) ≡ postfix x
counted_codes a empty = refl
counted_codes a (leaf x) = refl
counted_codes a (then l r) = both_codes 2 _ _ _ _ (counted_codes a l) (counted_codes (a + length (leaves l)) r)
counted_codes a (either l r) = both_codes 3 _ _ _ _ (counted_codes a l) (counted_codes (a + length (leaves l)) r)
counted_codes a (maybe e) = ap (λ (w : List ℕ). w ++ (4 ∷ [])) (counted_codes a e)
counted_codes a (many e) = ap (λ (w : List ℕ). w ++ (5 ∷ [])) (counted_codes a e)
counted_codes a (some e) = ap (λ (w : List ℕ). w ++ (6 ∷ [])) (counted_codes a e)

-- two parts, the second counted on from the first
both_leaves : {A : Type 0} (a : ℕ) (ls rs : List A) (u v : List ℕ) → u ≡ above a (length ls) → v ≡ above (a + length ls) (length rs) → u ++ v ≡ above a (length (ls ++ rs))
both_leaves a ls rs u v p q =
    let j : u ++ v ≡ above a (length ls) ++ above (a + length ls) (length rs) = cc in
    j ∙ above_append a (length ls) (length rs) ∙ ap (above a) (sym (length-append ls rs))

counted_leaves : {A : Type 0} (a : ℕ) (x : Tree A) → leaves (counted a x) ≡ above a (length (leaves x))
counted_leaves a empty = refl
counted_leaves a (leaf x) = refl
counted_leaves a (then l r) = both_leaves a (leaves l) (leaves r) _ _ (counted_leaves a l) (counted_leaves (a + length (leaves l)) r)
counted_leaves a (either l r) = both_leaves a (leaves l) (leaves r) _ _ (counted_leaves a l) (counted_leaves (a + length (leaves l)) r)
counted_leaves a (maybe e) = counted_leaves a e
counted_leaves a (many e) = counted_leaves a e
counted_leaves a (some e) = counted_leaves a e

pub texts_are_formed : TextsAreFormed
texts_are_formed t m d =
    let b = built d.within.model in
    let n : length (map name_row d.names) ≡ length d.names = length-map d.names name_row in
    let w : WellFormed (length d.names) d.codes = record {
      few = d.within.few;
      short = room d.within.model d.within.few;
      tree = counted 0 b.0;
      codes = record {
        codes = b.2 ∙ sym (counted_codes 0 b.0);
        places = counted_leaves 0 b.0 ∙ ap (λ l. above 0 (length l)) (sym b.3);
      };
    } in
    subst Formed (sym d.model) (subst (λ k. WellFormed k d.codes) (sym n) w)
