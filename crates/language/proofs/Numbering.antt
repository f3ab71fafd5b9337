-- The positions of a model whose symbols are numbered: each number stands at one symbol.
use Rattle.std.proofs.Common.{◌≡◌, ℕ, zero, suc, ◌+◌, ◌<◌, ◌≤◌, ◌⊎◌, [], ◌∷◌, ◌++◌, length, sym, ap, ◌∙◌, subst, inl, inr, arith}
use Rattle.std.proofs.lemmas.Bool.{cases_lt}
use Rattle.codes.specs.Tree.{empty, leaf, then, either, maybe, many, some, leaves}
use Rattle.codes.specs.Checked.{above}
use Rattle.codes.proofs.Numbers.{above_cut, length_above}
use Rattle.language.specs.Words.{Expr, Numbered}
use Rattle.language.specs.Sets.{In, Distinct}

-- the positions of e are those above a and up to b, each at one symbol
pub record Spans (e : Expr) (a b : ℕ) : Type 0 where
  pub distinct : Distinct e
  pub above : (x : ℕ) → In e x → a < x
  pub upto : (x : ℕ) → In e x → x ≤ b
  pub all : (x : ℕ) → a < x → x ≤ b → In e x

-- two parts, the second numbered from where the first ends
module _ (l r : Expr) (a b c : ℕ) (h : a ≤ b) (k : b ≤ c) (p : Spans l a b) (q : Spans r b c) where
  two_distinct : Distinct l × Distinct r × ((x : ℕ) → In l x → In r x → ⊥)
  two_distinct = (p.distinct, q.distinct, λ x i j. omega (arith, p.upto x i, q.above x j))

  two_above : (x : ℕ) → In l x ⊎ In r x → a < x
  two_above x (inl i) = p.above x i
  two_above x (inr i) = omega (arith, q.above x i)

  two_upto : (x : ℕ) → In l x ⊎ In r x → x ≤ c
  two_upto x (inl i) = omega (arith, p.upto x i)
  two_upto x (inr i) = q.upto x i

  two_all : (x : ℕ) → a < x → x ≤ c → In l x ⊎ In r x
  two_all x m n = elim (cases_lt b x) [ inl o ↦ inr (q.all x o n) | inr o ↦ inl (p.all x m o) ]

spans_none : (a k : ℕ) → [] ≡ above a k → Spans empty a (a + k)
spans_none a k e =
    let z : k ≡ 0 = sym (length_above a k) ∙ sym (ap length e) in
    record { distinct = tt; above = λ x i. absurd i; upto = λ x i. absurd i; all = λ x m n. omega arith }

spans_one : (y a k : ℕ) → y ∷ [] ≡ above a k → Spans (leaf y) a (a + k)
spans_one y a zero e = absurd (let z : ◌≡◌ {A = ℕ} 0 1 = cc in omega arith)
spans_one y a (suc k) e =
    let z : suc k ≡ 1 = sym (length_above a (suc k)) ∙ sym (ap length e) in
    let q : y ≡ a + 1 = cc in
    record { distinct = tt; above = λ x i. omega arith; upto = λ x i. omega arith; all = λ x m n. omega arith }

-- a cut of the numbers between two parts
spans_two : (l r : Expr) (a k : ℕ) → ((b j : ℕ) → leaves l ≡ above b j → Spans l b (b + j)) → ((b j : ℕ) → leaves r ≡ above b j → Spans r b (b + j))
    → leaves l ++ leaves r ≡ above a k → Spans (then l r) a (a + k)
spans_two l r a k f g e =
    let c = above_cut a k (leaves l) (leaves r) e in
    let b : ℕ = a + c.first in
    let z : b + c.second ≡ a + k = omega (arith, c.sum) in
    let p = f a c.first c.left in
    let q = subst (Spans r b) z (g b c.second c.right) in
    let h : a ≤ b = omega arith in
    let m : b ≤ a + k = omega (arith, c.sum) in
    record {
      distinct = two_distinct l r a b (a + k) h m p q;
      above = two_above l r a b (a + k) h m p q;
      upto = two_upto l r a b (a + k) h m p q;
      all = two_all l r a b (a + k) h m p q;
    }

-- the numbers at the symbols of e are the k above a
pub spans : (e : Expr) (a k : ℕ) → leaves e ≡ above a k → Spans e a (a + k)
spans empty a k e = spans_none a k e
spans (leaf y) a k e = spans_one y a k e
spans (then l r) a k e = spans_two l r a k (spans l) (spans r) e
spans (either l r) a k e =
    let p = spans_two l r a k (spans l) (spans r) e in record { distinct = p.distinct; above = p.above; upto = p.upto; all = p.all }
spans (maybe f) a k e = let p = spans f a k e in record { distinct = p.distinct; above = p.above; upto = p.upto; all = p.all }
spans (many f) a k e = let p = spans f a k e in record { distinct = p.distinct; above = p.above; upto = p.upto; all = p.all }
spans (some f) a k e = let p = spans f a k e in record { distinct = p.distinct; above = p.above; upto = p.upto; all = p.all }

pub numbered_spans : (n : ℕ) (e : Expr) → Numbered n e → Spans e 0 n
numbered_spans n e h = let z : 0 + n ≡ n = omega arith in subst (Spans e 0) z (spans e 0 n h)
