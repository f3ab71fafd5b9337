-- Runs of bytes, and the token at an offset. Assumes nothing.
use Rattle.std.proofs.Common.{◌≡◌, ℕ, ◌+◌, ◌-◌, ◌<◌, ◌≤◌, Bool, true, false, cond, List, [], ◌∷◌, length, get_or, take, drop, sym, refl, ap, ◌∙◌, subst, ⊎_elim, arith, length-drop, length-take-le, drop-cons, add-one, le-ltb, lt-ltb}
use Rattle.std.specs.List.{prefix_len}
use Rattle.std.proofs.lemmas.List.{get_or_past}
use Rattle.std.proofs.str.Laws.{order}
use Rattle.symbols.specs.Rule.{inner}
use Rattle.tokens.specs.Bytes.{class_of}
use Rattle.tokens.specs.Tokens.{tok, by_class, pcdata_at, While, stop, on, Longest, Named, slice, end}
use Rattle.tokens.specs.declared.types.Class.{Class}

-- a test is not both passed and failed
pub not_both : {b : Bool} → b ≡ true → b ≡ false → ⊥
not_both a b = let z : ◌≡◌ {A = ℕ} 0 1 = cc in omega arith

-- a run does not go back
pub while_le : {p : ℕ → Bool} {t : List ℕ} {i j : ℕ} → While p t i j → i ≤ j
while_le stop = omega arith
while_le (on e r) = omega (arith, while_le r)

-- two runs from one place that end where the test fails end at one place
pub same_run : {p : ℕ → Bool} {t : List ℕ} {i j k : ℕ} → While p t i j → While p t i k → p (get_or t j 0) ≡ false →
    p (get_or t k 0) ≡ false → k ≡ j
same_run stop stop a b = refl
same_run stop (on e r) a b = absurd (not_both e a)
same_run (on e r) stop a b = absurd (not_both e b)
same_run (on e r) (on f q) a b = same_run r q a b

pub one_end : {p : ℕ → Bool} {t : List ℕ} {i j k : ℕ} → Longest p t i j → Longest p t i k → k ≡ j
one_end a b = same_run a.run b.run a.ends b.ends

-- a run of bytes that are not 0 stays inside the text
pub run_inside : (p : ℕ → Bool) (t : List ℕ) {i j : ℕ} → p 0 ≡ false → While p t i j → i ≤ length t → j ≤ length t
run_inside p t z stop h = h
run_inside p t z (on {i = i} e r) h = run_inside p t z r (⊎_elim (λ l. omega arith) (λ l. absurd (not_both (ap p (sym (get_or_past t i 0 l)) ∙ e) z)) (order i (length t)))

pub tok_in : (t : List ℕ) (i : ℕ) → i < length t → tok t i ≡ by_class (class_of (get_or t i 0)) (pcdata_at t i)
unfolding tok
tok_in t i h = ap (λ (v : Bool). cond v (by_class (class_of (get_or t i 0)) (pcdata_at t i)) end) (lt-ltb i (length t) h)

pub tok_past : (t : List ℕ) (i : ℕ) → length t ≤ i → tok t i ≡ end
unfolding tok
tok_past t i h = ap (λ (v : Bool). cond v (by_class (class_of (get_or t i 0)) (pcdata_at t i)) end) (le-ltb i (length t) h)

pub class_tok : (t : List ℕ) (i : ℕ) (k : Class) → i < length t → k ≡ class_of (get_or t i 0) →
    by_class k (pcdata_at t i) ≡ tok t i
class_tok t i k h e = ap (λ (v : Class). by_class v (pcdata_at t i)) e ∙ sym (tok_in t i h)

pub named : (t : List ℕ) (i j : ℕ) → i < j → j ≤ length t → Longest inner t (i + 1) j →
    Named t i (take (j - i) (drop i t))
named t i j a b r =
    let long : length (take (j - i) (drop i t)) ≡ j - i = length-take-le (j - i) (drop i t) (omega (arith, length-drop i t)) in
    let there : j ≡ i + length (take (j - i) (drop i t)) = omega arith in
    record {
      longest = subst (λ (k : ℕ). Longest inner t (i + 1) k) there r;
      bytes = ap (λ (k : ℕ). slice t i k) there;
      some = omega arith;
      inside = omega arith;
    }

-- from i on, a run is as long as the test is passed by the bytes there
pub longest_run : (p : ℕ → Bool) (t : List ℕ) (i : ℕ) → p 0 ≡ false → Longest p t i (i + prefix_len p (drop i t))
longest_run p t i z = go (drop i t) i refl
  where
    here : (i : ℕ) → p (get_or t i 0) ≡ false → Longest p t i (i + 0)
    here i e = let n : i + 0 ≡ i = omega arith in rw n (record { run = stop; ends = e })

    go : (s : List ℕ) (i : ℕ) → drop i t ≡ s → Longest p t i (i + prefix_len p s)
    go [] i e = here i (ap p (get_or_past t i 0 (omega (arith, length-drop i t, ap length e))) ∙ z)
    go (x ∷ s) i e =
        let h : i < length t = omega (arith, length-drop i t, ap length e) in
        let d = drop-cons t i 0 h in
        let k : get_or t i 0 ≡ x = cc in
        let r : drop (i + 1) t ≡ s = rw add-one cc in
        by (p x) refl k (go s (i + 1) r)
      where
        by : (v : Bool) → p x ≡ v → get_or t i 0 ≡ x → Longest p t (i + 1) (i + 1 + prefix_len p s) → Longest p t i (i + cond v (1 + prefix_len p s) 0)
        by true f k l = let n : i + (1 + prefix_len p s) ≡ i + 1 + prefix_len p s = omega arith in rw n (record { run = on (ap p k ∙ f) l.run; ends = l.ends })
        by false f k l = here i (ap p k ∙ f)
