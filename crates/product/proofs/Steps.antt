-- One step of the code over pairs.
use Rattle.std.proofs.Common.{◌≡◌, ℕ, ◌+◌, ◌-◌, ◌*◌, ◌/◌, ◌%◌, ◌<◌, ◌≤◌, true, List, length, get_or, Some, Option, unwrap_or, sym, ap, ◌∙◌, subst, mul-le-mul, arith}
use Rattle.std.proofs.lemmas.Bool.{cond-true}
use Rattle.language.specs.Meaning.{symbol_at}
use Rattle.language.proofs.Symbols.{symbol_is}
use Rattle.models.specs.declared.tables.Sets.{Sets}
use Rattle.tables.specs.Tables.{Table, Sound}
use Rattle.models.specs.Stepping.{positions, can_follow}
use Rattle.product.specs.Pairs.{after, product}
use Rattle.product.specs.PairsSound.{follows_parts, after_within}

-- the reader's state after the symbol of position y, which was read as a
pub after_read : {S : Type 0} (t : Table S) (xs : List S) (k y : ℕ) (a : S) (o : Option ℕ) → 1 ≤ y → y ≤ length xs → a ≡ get_or xs (y - 1) a → o ≡ t.goes k a
    → unwrap_or o t.states ≡ after t k (symbol_at xs y)
after_read t xs k y a o some most read goes =
    let j : y - 1 + 1 ≡ y = omega arith in
    let e : symbol_at xs y ≡ Some a = ap (symbol_at xs) (sym j) ∙ symbol_is xs (y - 1) a (omega arith) read in
    ap (λ i. unwrap_or i t.states) goes ∙ sym (ap (after t k) e)

module _ {S : Type 0} (s : Sets) (rows : List ℕ) (xs : List S) (t : Table S) (v y next : ℕ) where
  -- position y leads from node v to its pair, where the code has the number n of positions and the number k of the reader's states
  abbrev LeadsTo : ℕ → ℕ → Type 0
  LeadsTo n k = true ≡ can_follow s rows n (v / (k + 1)) y → next ≡ after t (v % (k + 1)) (symbol_at xs y) → Some (y * (k + 1) + next) ≡ (product s rows xs t).goes v y

  leads_exactly : LeadsTo (positions xs) t.states
  leads_exactly f q = sym (cond-true _ _ _ (sym f) ∙ ap (λ i. Some (y * (t.states + 1) + i)) (sym q))

  pub leads_to : (n k : ℕ) → n ≡ positions xs → k ≡ t.states → LeadsTo n k
  leads_to n k en ek = subst (λ i. LeadsTo i k) (sym en) (subst (λ i. LeadsTo (positions xs) i) (sym ek) leads_exactly)

-- The code has the number n of positions, and position y may come after a state x of the model.
module _ {S : Type 0} (s : Sets) (rows : List ℕ) (xs : List S) (n x y : ℕ) (en : n ≡ positions xs) (f : true ≡ can_follow s rows n x y) where
  -- the position has a symbol
  pub has_symbol : (1 ≤ y) × (y ≤ length xs)
  has_symbol = let p = follows_parts s rows n x y (sym f) in let most : y ≤ length xs = omega (arith, p.most, en) in (p.some, most)

  -- the pair with a state of the reader, which has k states, is a number of 32 bits
  pub pair_small : (t : Table S) → Sound t → (k j next : ℕ) → k ≡ t.states → next ≡ after t j (symbol_at xs y) → y * (k + 1) + next ≤ 64 * 4097 + 4096
  pair_small t H k j next ek q =
      let p = follows_parts s rows n x y (sym f) in
      let a : y ≤ 64 = omega (arith, p.most, en) in
      let b : k + 1 ≤ 4097 = omega (arith, H.most, ek) in
      let c : y * (k + 1) ≤ 64 * 4097 = mul-le-mul a b in
      let d : next < t.states + 1 = subst (λ i. i < t.states + 1) (sym q) (after_within t H j (symbol_at xs y)) in
      omega (arith, c, d, H.most)
