-- Skip's table is lawful. Assumes nothing.
use Rattle.std.proofs.Common.{◌≡◌, ℕ, Bool, true, false, cond, ltb, ◌⊎◌, Some, None, Option, refl, inl, inr, ⊎_elim, arith}
use Rattle.std.proofs.lemmas.Bool.{ltb-true}
use Rattle.symbols.specs.Kinds.{KindLaws}
use Rattle.tables.specs.Tables.{Table, Sound, Alike}
use Rattle.tables.specs.Layers.{skip_table}

pub none_some : (y : ℕ) → ◌≡◌ {A = Option ℕ} None (Some y) → ⊥
none_some y e = let z : ◌≡◌ {A = ℕ} 0 1 = cc in omega arith

-- a step of skip stays at a state, or is a step below
skip_cases : (f b : Bool) (x y : ℕ) (o : Option ℕ) → cond f (cond b (Some x) None) o ≡ Some y → ((b ≡ true) × (x ≡ y)) ⊎ (o ≡ Some y)
skip_cases true true x y o e = inl (refl, cc)
skip_cases true false x y o e = absurd (none_some y e)
skip_cases false b x y o e = inr e

module _ {S : Type 0} (foreign : S → Bool) (t : Table S) where
  pub skip_sound : Sound t → Sound (skip_table foreign t)
  skip_sound l = record {
    some = l.some;
    most = l.most;
    starts = l.starts;
    ends = l.ends;
    leaves = λ x y a e. ⊎_elim (λ p. ltb-true x t.states p.0) (λ q. l.leaves x y a q) (skip_cases (foreign a) (ltb x t.states) x y (t.goes x a) e);
    lands = λ x y a e. ⊎_elim (λ p. let h = ltb-true x t.states p.0 in omega (arith, p.1)) (λ q. l.lands x y a q) (skip_cases (foreign a) (ltb x t.states) x y (t.goes x a) e);
  }

  pub skip_alike : {same : S → S → Bool} → Alike same t → KindLaws same foreign → Alike same (skip_table foreign t)
  skip_alike l k = λ x a b s. let fs = k.alike a b s in let gs = l x a b s in cc
