-- The numbers above a: cut in two, and one more.
use Rattle.std.proofs.Common.{◌≡◌, ℕ, zero, suc, ◌+◌, List, [], ◌∷◌, ◌++◌, length, sym, refl, ap, ◌∙◌, subst, add-one, arith}
use Rattle.codes.specs.Checked.{above}

-- two lists that together count up from a: each counts up, the second from where the first ends
pub record Cut (a k : ℕ) (xs ys : List ℕ) : Type 0 where
  pub first : ℕ
  pub second : ℕ
  pub sum : k ≡ first + second
  pub left : xs ≡ above a first
  pub right : ys ≡ above (a + first) second

pub above_cut : (a k : ℕ) (xs ys : List ℕ) → xs ++ ys ≡ above a k → Cut a k xs ys
above_cut a k [] ys e =
    let z : a ≡ a + 0 = omega arith in
    record { first = 0; second = k; sum = omega arith; left = refl; right = subst (λ (n : ℕ). ys ≡ above n k) z e }
above_cut a zero (x ∷ xs) ys e = absurd (let z : ◌≡◌ {A = ℕ} 0 1 = cc in omega arith)
above_cut a (suc k) (x ∷ xs) ys e =
    let tail : xs ++ ys ≡ above (a + 1) k = cc in
    let c = above_cut (a + 1) k xs ys tail in
    let z : a + 1 + c.first ≡ a + suc c.first = omega arith in
    let l : xs ≡ above (a + 1) c.first = c.left in
    record {
      first = suc c.first;
      second = c.second;
      sum = omega (arith, c.sum);
      left = cc;
      right = subst (λ (n : ℕ). ys ≡ above n c.second) z c.right;
    }

pub above_push : (a k : ℕ) → above a k ++ ((a + k + 1) ∷ []) ≡ above a (k + 1)
above_push a zero = let z : a + 0 + 1 ≡ a + 1 = omega arith in ap (λ (n : ℕ). n ∷ []) z
above_push a (suc k) =
    let z : a + suc k + 1 ≡ a + 1 + k + 1 = omega arith in
    let more : above a (suc k + 1) ≡ (a + 1) ∷ above (a + 1) (k + 1) = ap (above a) (add-one (suc k)) ∙ ap (λ (n : ℕ). (a + 1) ∷ above (a + 1) n) (sym (add-one k)) in
    ap (λ (n : ℕ). (a + 1) ∷ (above (a + 1) k ++ (n ∷ []))) z ∙ ap (λ (t : List ℕ). (a + 1) ∷ t) (above_push (a + 1) k) ∙ sym more

pub length_above : (a k : ℕ) → length (above a k) ≡ k
length_above a zero = refl
length_above a (suc k) = ap suc (length_above (a + 1) k)
