-- The greatest limit that fits; a limit's table is lawful. Assumes nothing.
use Rattle.std.proofs.Common.{◌≡◌, ℕ, ◌+◌, ◌*◌, ◌/◌, ◌%◌, ◌<◌, ◌≤◌, Bool, true, false, cond, ltb, Some, None, Option, sym, refl, subst, mul_comm, mul-one, mul-add, arith}
use Rattle.std.proofs.lemmas.Nat.{mul-add-lt, div_below}
use Rattle.std.proofs.lemmas.Grind.{common_steps}
use Rattle.std.proofs.lemmas.Bool.{ltb-true, and_parts}
use Rattle.tables.specs.Tables.{Table, Sound, Alike, onward}
use Rattle.tables.specs.Layers.{Greatest, greatest, held, limit_table, limited}
use Rattle.tables.specs.Laws.{HeldLaw}
use Rattle.tables.proofs.Laws.{none_some}

-- the limit that is computed is the greatest that fits
pub greatest_is : (m : ℕ) → 1 ≤ m → m ≤ 4096 → Greatest m (greatest m)
greatest_is m one most = (grind (arith, common_steps), λ k h. grind (arith, common_steps))

-- what is held fits
pub room : (m asked : ℕ) → 1 ≤ m → m ≤ 4096 → m * (held m asked + 1) ≤ 4096
room m asked one most = grind (arith, common_steps)

pub held_is : HeldLaw
held_is m asked one most =
    let g = greatest_is m one most in
    record {
      greatest_fits = g;
      fitting = λ h. omega (arith, g.1 asked h);
      passing = λ h.
          let over : greatest m < asked = grind (arith, common_steps) in
          let top : held m asked ≡ greatest m = omega arith in
          subst (Greatest m) (sym top) g;
    }

-- a step of a limit is a step below, one symbol on
limit_cases : {S : Type 0} (n : ℕ) (t : Table S) (s y : ℕ) (a : S) → (limit_table n t).goes s a ≡ Some y →
    (s < t.states * n) × ((z : ℕ) × (t.goes (s % t.states) a ≡ Some z) × (y ≡ (s / t.states + 1) * t.states + z))
limit_cases n t s y a e = by (ltb s (t.states * n)) (t.goes (s % t.states) a) refl refl e
  where
    by : (b : Bool) (o : Option ℕ) → ltb s (t.states * n) ≡ b → t.goes (s % t.states) a ≡ o → cond b (onward o None (λ z. Some ((s / t.states + 1) * t.states + z))) None ≡ Some y →
        (s < t.states * n) × ((z : ℕ) × (t.goes (s % t.states) a ≡ Some z) × (y ≡ (s / t.states + 1) * t.states + z))
    by true None l g e = absurd (none_some y e)
    by true (Some z) l g e = (ltb-true s (t.states * n) l, (z, g, cc))
    by false o l g e = absurd (none_some y e)

module _ {S : Type 0} (n : ℕ) (t : Table S) (l : Sound t) (fits : t.states * (n + 1) ≤ 4096) where
  whole : t.states * (n + 1) ≡ t.states * n + t.states
  whole = simp (mul-add, mul-one)

  pub limit_sound : Sound (limit_table n t)
  limit_sound = record {
    some = omega (arith, whole, l.some);
    most = fits;
    starts = omega (arith, whole, l.starts);
    ends = λ s e. ltb-true s (t.states * (n + 1)) (and_parts _ _ e).0;
    leaves = λ s y a e. omega (arith, whole, (limit_cases n t s y a e).0);
    lands = λ s y a e.
        let c = limit_cases n t s y a e in
        let z = c.1.0 in
        let k : s / t.states < n = div_below s t.states n l.some (omega (arith, mul_comm n t.states, c.0)) in
        let p : (s / t.states + 1) * t.states + z < t.states * (n + 1) = mul-add-lt (s / t.states + 1) t.states z (n + 1) (omega arith) (l.lands _ _ a c.1.1) in
        omega (arith, p, c.1.2);
  }

pub limit_alike : {S : Type 0} {same : S → S → Bool} (n : ℕ) (t : Table S) → Alike same t → Alike same (limit_table n t)
limit_alike n t l x a b s = let g = l (x % t.states) a b s in cc

pub limited_sound : {S : Type 0} (asked : ℕ) (t : Table S) → Sound t → Sound (limited asked t)
limited_sound asked t l = limit_sound (held t.states asked) t l (room t.states asked l.some l.most)
