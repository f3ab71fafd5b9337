-- Marked words as chains of states: state 0 is the start, state x is position x.
use Rattle.std.proofs.Common.{◌≡◌, ℕ, zero, suc, ◌≤◌, List, [], ◌∷◌, ◌++◌, sym, refl, subst, inl, inr, arith}
use Rattle.language.specs.Words.{Expr, Marked, Parts}
use Rattle.language.specs.Sets.{In, Nullable, First, Last, Follow, Run, Local}
use Rattle.language.proofs.Numbering.{Spans}
use Rattle.language.proofs.Sound.{sound}
use Rattle.language.proofs.Whole.{whole, first_in, follow_in}
use Rattle.language.proofs.Exact.{has_word, in_occurs, local_rest}
use Rattle.language.proofs.Opponents.{together_parts}

module _ (e : Expr) where
  -- position y may come after state x
  abbrev pub Step : ℕ → ℕ → Type 0
  Step zero y = First e y
  Step (suc x) y = Follow e (suc x) y

  -- a word may end in state x
  abbrev pub End : ℕ → Type 0
  End zero = Nullable e
  End (suc x) = Last e (suc x)

  -- the positions w lead from state x to state z
  abbrev pub Chain : ℕ → List ℕ → ℕ → Type 0
  Chain x [] z = x ≡ z
  Chain x (y ∷ w) z = Step x y × Chain y w z

  pub step_in : (x y : ℕ) → Step x y → In e y
  step_in zero y h = first_in e y h
  step_in (suc x) y h = (follow_in e (suc x) y h).1

  pub chain_cut : (u v : List ℕ) (x z : ℕ) → Chain x (u ++ v) z → (y : ℕ) × Chain x u y
  chain_cut [] v x z c = (x, refl)
  chain_cut (y ∷ u) v x z c = let r = chain_cut u v y z c.1 in (r.0, (c.0, r.1))

  module _ (n : ℕ) (s : Spans e 0 n) where
    pub step_range : (x y : ℕ) → Step x y → (1 ≤ y) × (y ≤ n)
    step_range x y h = let i = step_in x y h in let a = s.above y i in let b = s.upto y i in (omega arith, b)

    pub chain_within : (w : List ℕ) (x z : ℕ) → x ≤ n → Chain x w z → z ≤ n
    chain_within [] x z h c = subst (λ i. i ≤ n) c h
    chain_within (y ∷ w) x z h c = chain_within w y z (step_range x y c.0).1 c.1

    run_chain : (w : List ℕ) (x : ℕ) → Run (Follow e) (Last e) (suc x) w → (z : ℕ) × Chain (suc x) w z × End z
    run_chain [] x r = (suc x, refl, r)
    run_chain (zero ∷ w) x r = absurd (let a = s.above 0 (follow_in e (suc x) 0 r.0).1 in omega (arith, a))
    run_chain (suc y ∷ w) x r = let c = run_chain w y r.1 in (c.0, (r.0, c.1), c.2)

    local_chain : (w : List ℕ) → Local e w → (z : ℕ) × Chain 0 w z × End z
    local_chain [] h = (0, refl, h)
    local_chain (zero ∷ w) h = absurd (let a = s.above 0 (first_in e 0 h.0) in omega (arith, a))
    local_chain (suc x ∷ w) h = let c = run_chain w x h.1 in (c.0, (h.0, c.1), c.2)

    chain_run : (w : List ℕ) (x z : ℕ) → Chain (suc x) w z → End z → Run (Follow e) (Last e) (suc x) w
    chain_run [] x z c h = subst End (sym c) h
    chain_run (zero ∷ w) x z c h = absurd (let a = s.above 0 (step_in (suc x) 0 c.0) in omega (arith, a))
    chain_run (suc y ∷ w) x z c h = (c.0, chain_run w y z c.1 h)

    chain_local : (w : List ℕ) (z : ℕ) → Chain 0 w z → End z → Local e w
    chain_local [] z c h = subst End (sym c) h
    chain_local (zero ∷ w) z c h = absurd (let a = s.above 0 (step_in 0 0 c.0) in omega (arith, a))
    chain_local (suc x ∷ w) z c h = (c.0, chain_run w x z c.1 h)

    -- a marked word is a chain from 0 that ends where a word may end
    pub marked_chain : (w : List ℕ) → Marked e w → (z : ℕ) × Chain 0 w z × End z
    marked_chain w m = local_chain w (sound e w m)

    pub chain_marked : (w : List ℕ) (z : ℕ) → Chain 0 w z → End z → Marked e w
    chain_marked w z c h = whole e s.distinct w (chain_local w z c h)

    run_on : (w : List ℕ) (x z : ℕ) → In e (suc x) → Chain (suc x) w z → (v : List ℕ) × Run (Follow e) (Last e) (suc x) (w ++ v)
    run_on [] x z i c = let o = in_occurs e (suc x) i in (o.1, local_rest e (suc x) o.1 o.0 (sound e _ o.2))
    run_on (zero ∷ w) x z i c = absurd (let a = s.above 0 (step_in (suc x) 0 c.0) in omega (arith, a))
    run_on (suc y ∷ w) x z i c = let r = run_on w y z (step_in (suc x) (suc y) c.0) c.1 in (r.0, (c.0, r.1))

    -- every chain from 0 begins a marked word
    pub chain_begins : (w : List ℕ) (z : ℕ) → Chain 0 w z → (v : List ℕ) × Marked e (w ++ v)
    chain_begins [] z c = has_word e
    chain_begins (zero ∷ w) z c = absurd (let a = s.above 0 (step_in 0 0 c.0) in omega (arith, a))
    chain_begins (suc x ∷ w) z c = let r = run_on w x z (step_in 0 (suc x) c.0) c.1 in (r.0, whole e s.distinct _ (c.0, r.1))

    -- two positions after one state part
    pub steps_part : (x y z : ℕ) → Step x y → Step x z → Parts e y z
    steps_part zero y z h k = together_parts e s.distinct y z (inl (h, k))
    steps_part (suc x) y z h k = together_parts e s.distinct y z (inr (suc x, h, k))
