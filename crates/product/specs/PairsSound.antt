-- The product graph of a sound table is sound: its edges stay within its nodes. Assumes nothing.
use Rattle.std.specs.Prelude.{◌≡◌, ℕ, zero, suc, ◌+◌, ◌-◌, ◌*◌, ◌<◌, ◌≤◌, Bool, true, false, cond, List, Some, None, Option, refl}
use Rattle.std.proofs.Common.{subst, inl, inr, arith, mul-le-mul, mul-le-mul_right, mod-lt, div-add-mod'}
use Rattle.std.proofs.Math.Arith.{digits_lt}
use Rattle.std.specs.Option.{unwrap_or}
use Rattle.std.proofs.lemmas.Bool.{and_parts, leb-true, eqb-true, cond-false, le-ltb, cases_lt}
use Rattle.language.specs.Meaning.{symbol_at}
use Rattle.models.specs.declared.tables.Sets.{Sets}
use Rattle.models.specs.Bitsets.{Bit}
use Rattle.models.specs.Stepping.{set_after}
use Rattle.models.proofs.Bitsets.{none_bit}
use Rattle.tables.specs.Tables.{Table, Sound}
use Rattle.walk.specs.Graph.{Sound as SoundGraph}
use Rattle.models.specs.Stepping.{positions, can_follow}
use Rattle.product.specs.Pairs.{after, node, model_state, reader_state, product}

pub goes_parts : (b : Bool) (o z : ℕ) → cond b (Some o) None ≡ Some z → (b ≡ true) × (o ≡ z)
goes_parts true o z e = (refl, cc)
goes_parts false o z e = absurd (let n : ◌≡◌ {A = ℕ} 0 1 = cc in let f : ⊥ = omega arith in f)

next_within : (s : Sets) (rows : List ℕ) (n x k : ℕ) → Bit (set_after s rows n x) k → x ≤ n
next_within s rows n zero k b = omega arith
next_within s rows n (suc x) k b =
    elim (cases_lt x n) [
      | inl h ↦ h
      | inr h ↦ absurd (none_bit k (subst (λ a. Bit a k) (cond-false _ _ _ (le-ltb x n h)) b))
    ]

-- position y, one of n, may come after state x, the start or one of them
pub record NextPosition (s : Sets) (rows : List ℕ) (n x y : ℕ) : Type 0 where
  pub some : 1 ≤ y
  pub most : y ≤ n
  pub set : Bit (set_after s rows n x) (y - 1)
  pub from : x ≤ n

pub follows_parts : (s : Sets) (rows : List ℕ) (n x y : ℕ) → can_follow s rows n x y ≡ true → NextPosition s rows n x y
follows_parts s rows n x y e =
    let a = and_parts _ _ e in
    let b = and_parts _ _ a.1 in
    let c : Bit (set_after s rows n x) (y - 1) = eqb-true _ 1 b.1 in
    record { some = leb-true 1 y a.0; most = leb-true y n b.0; set = c; from = next_within s rows n x (y - 1) c }

value_within : (o : Option ℕ) (k : ℕ) → ((y : ℕ) → o ≡ Some y → y < k) → unwrap_or o k < k + 1
value_within None k h = omega arith
value_within (Some y) k h = omega (arith, h y refl)

node_within : {S : Type 0} (t : Table S) (n v : ℕ) → model_state t v ≤ n → v < (n + 1) * (t.states + 1)
node_within t n v h =
    subst (λ i. i < (n + 1) * (t.states + 1)) (div-add-mod' v (t.states + 1))
    (digits_lt (omega arith) (mod-lt v (omega arith)))

module _ {S : Type 0} (t : Table S) (H : Sound t) where
  pub after_within : (y : ℕ) (o : Option S) → after t y o < t.states + 1
  after_within y None = omega arith
  after_within y (Some a) = value_within (t.goes y a) t.states (λ z e. H.lands y z a e)

module _ {S : Type 0} (s : Sets) (rows : List ℕ) (xs : List S) (t : Table S) (H : Sound t) where
  edge : (v y z : ℕ) → (product s rows xs t).goes v y ≡ Some z
      → NextPosition s rows (positions xs) (model_state t v) y × (node t y (after t (reader_state t v) (symbol_at xs y)) ≡ z)
  edge v y z e = let g = goes_parts _ _ _ e in (follows_parts s rows (positions xs) (model_state t v) y g.0, g.1)

  pub product_sound : SoundGraph (product s rows xs t)
  product_sound =
      record {
        few_nodes =
            (let a : positions xs + 1 ≤ 65 = omega arith in
            let b : t.states + 1 ≤ 4097 = omega (arith, H.most) in
            let c : (positions xs + 1) * (t.states + 1) ≤ 65 * 4097 = mul-le-mul a b in
            omega (arith, c));
        few_labels = omega arith;
        starts =
            (let a : 1 * (t.states + 1) ≤ (positions xs + 1) * (t.states + 1) = mul-le-mul_right (t.states + 1) (omega arith) in
            omega (arith, a, H.starts));
        leaves = λ v y z e. node_within t (positions xs) v (edge v y z e).0.from;
        arrives = λ v y z e. (let g = edge v y z e in
            subst (λ i. i < (positions xs + 1) * (t.states + 1)) g.1 (digits_lt (omega (arith, g.0.most)) (after_within t H (reader_state t v) (symbol_at xs y))));
        labelled = λ v y z e. (let g = edge v y z e in (g.0.some, g.0.most));
        wants = λ v e. node_within t (positions xs) v (leb-true _ _ (and_parts _ _ e).0);
      }
