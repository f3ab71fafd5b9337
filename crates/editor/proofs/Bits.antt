-- Bits of sets: one more, both, and the lowest. Assumes nothing.
use Rattle.std.proofs.Common.{◌≡◌, ℕ, zero, suc, ◌+◌, ◌/◌, ◌%◌, ◌^◌, ◌<◌, ◌≤◌, min, Bool, true, false, cond, ◌&&◌, eqb, ltb, ◌⊎◌, Some, None, Option, sym, refl, ap, ◌∙◌, inl, inr, ⊎_elim, zero-add, arith}
use lib.Bits.{bit_or, bit_and, and_step, and_shr}
use lib.Count.{count_trailing_zeros, under}
use Rattle.std.specs.Bool.{then_some}
use Rattle.std.proofs.lemmas.Nat.{shr-shr}
use Rattle.std.proofs.lemmas.Bool.{eq-eqb, eqb-true, cases_Bool, lt-ltb, le-ltb, cases_lt, both_ways}
use Rattle.tables.specs.Places.{bit}
use Rattle.models.proofs.Bitsets.{Bit-bit_or, or_left, or_right, bit_only, only_set, none_bit}
use Rattle.editor.specs.Matching.{lowest}

same_test : (b c : Bool) → (b ≡ true → c ≡ true) → (c ≡ true → b ≡ true) → b ≡ c
same_test true c f g = sym (f refl)
same_test false true f g = g refl
same_test false false f g = refl

-- the bit that is added
pub added : (a k : ℕ) → bit (bit_or a (2 ^ k)) k ≡ true
added a k = eq-eqb _ 1 (or_right a (2 ^ k) k ((only_set k k).1 refl))

-- any other bit
pub not_added : (a k j : ℕ) → (j ≡ k → ⊥) → bit (bit_or a (2 ^ k)) j ≡ bit a j
not_added a k j ne =
    same_test _ _
    (λ h. ⊎_elim (λ b. eq-eqb _ 1 b) (λ b. absurd (ne (bit_only k j b))) (Bit-bit_or a (2 ^ k) j (eqb-true _ 1 h)))
    (λ h. eq-eqb _ 1 (or_left a (2 ^ k) j (eqb-true _ 1 h)))

low_and : (a b : ℕ) → bit_and a b % 2 ≡ min (a % 2) (b % 2)
low_and a b = omega (arith, and_step a b)

least_of : (x y : ℕ) → x < 2 → y < 2 → eqb (min x y) 1 ≡ eqb x 1 && eqb y 1
least_of zero y h k = ap (λ n. eqb n 1) (let z : min 0 y ≡ 0 = omega arith in z)
least_of (suc x) y h k = let z : min (suc x) y ≡ y = omega arith in let o : suc x ≡ 1 = omega arith in ap (λ n. eqb n 1) z ∙ ap (λ b. b && eqb y 1) (sym (eq-eqb (suc x) 1 o))

-- a bit of both sets
pub bit-bit_and : (a b k : ℕ) → bit (bit_and a b) k ≡ bit a k && bit b k
bit-bit_and a b k =
    ap (λ n. eqb (n % 2) 1) (and_shr a b k) ∙ ap (λ n. eqb n 1) (low_and (a / 2 ^ k) (b / 2 ^ k))
    ∙ least_of (a / 2 ^ k % 2) (b / 2 ^ k % 2) (omega arith) (omega arith)

under_odd : (d t : ℕ) → d ≡ 1 → under d t ≡ 0
under_odd zero t e = absurd (omega arith)
under_odd (suc d) t e = refl

under_even : (d t : ℕ) → d ≡ 0 → under d t ≡ suc t
under_even zero t e = refl
under_even (suc d) t e = absurd (omega arith)

-- what t zeros at the end of a set tell of n bits that are counted from i on
abbrev told_by : ℕ → ℕ → ℕ → Option ℕ
told_by i n t = cond (ltb t n) (Some (i + t + 1)) None

bit_odd : (set i : ℕ) → bit set i ≡ true → set / 2 ^ i % 2 ≡ 1
bit_odd set i b = eqb-true _ 1 b

bit_even : (set i : ℕ) → bit set i ≡ false → set / 2 ^ i % 2 ≡ 0
bit_even set i b = let ne : set / 2 ^ i % 2 ≡ 1 → ⊥ = λ e. both_ways _ b (eq-eqb _ 1 e) in omega (arith, ne)

ltb_suc : (t n : ℕ) → ltb t n ≡ ltb (suc t) (suc n)
ltb_suc t n = ⊎_elim (λ h. lt-ltb t n h ∙ sym (lt-ltb (suc t) (suc n) (omega arith))) (λ h. le-ltb t n h ∙ sym (le-ltb (suc t) (suc n) (omega arith))) (cases_lt t n)

-- one bit more
one_more : (n i set t : ℕ) → lowest n (i + 1) set ≡ told_by (i + 1) n t → (bit set i ≡ true) ⊎ (bit set i ≡ false)
    → lowest (suc n) i set ≡ told_by i (suc n) (under (set / 2 ^ i % 2) t)
one_more n i set t h (inl b) =
    let z : under (set / 2 ^ i % 2) t ≡ 0 = under_odd _ t (bit_odd set i b) in
    let j : i + 1 ≡ i + 0 + 1 = omega arith in
    ap (λ c. cond c (Some (i + 1)) (lowest n (i + 1) set)) b ∙ ap (λ k. Some k) j
    ∙ sym (ap (told_by i (suc n)) z ∙ ap (λ c. cond c (Some (i + 0 + 1)) None) (lt-ltb 0 (suc n) (omega arith)))
one_more n i set t h (inr b) =
    let z : under (set / 2 ^ i % 2) t ≡ suc t = under_even _ t (bit_even set i b) in
    let j : i + 1 + t + 1 ≡ i + suc t + 1 = omega arith in
    ap (λ c. cond c (Some (i + 1)) (lowest n (i + 1) set)) b ∙ h ∙ ap (λ k. cond (ltb t n) (Some k) None) j
    ∙ ap (λ c. cond c (Some (i + suc t + 1)) None) (ltb_suc t n) ∙ sym (ap (told_by i (suc n)) z)

-- the number of zeros below the lowest bit tells its position: of n bits from i on, of a number of w bits
lowest_is : (n w i set : ℕ) → n ≤ w → lowest n i set ≡ told_by i n (count_trailing_zeros w (set / 2 ^ i))
unfolding count_trailing_zeros
lowest_is zero w i set h = sym (ap (λ c. cond c (Some (i + count_trailing_zeros w (set / 2 ^ i) + 1)) None) (le-ltb (count_trailing_zeros w (set / 2 ^ i)) 0 (omega arith)))
lowest_is (suc n) zero i set h = absurd (omega arith)
lowest_is (suc n) (suc w) i set h =
    one_more n i set (count_trailing_zeros w (set / 2 ^ i / 2)) (lowest_is n w (i + 1) set (omega arith) ∙ ap (λ v. told_by (i + 1) n (count_trailing_zeros w v)) (sym (shr-shr set i 1))) (cases_Bool (bit set i))

cond_then_some : (b : Bool) (x : ℕ) → cond b (Some x) None ≡ then_some b x
cond_then_some true x = refl
cond_then_some false x = refl

pub lowest_at : (n set : ℕ) → n ≤ 64 → lowest n 0 set ≡ then_some (ltb (count_trailing_zeros 64 set) n) (count_trailing_zeros 64 set + 1)
lowest_at n set h =
    let z : set / 2 ^ 0 ≡ set = omega arith in
    lowest_is n 64 0 set h ∙ ap (λ v. told_by 0 n (count_trailing_zeros 64 v)) z ∙ ap (λ k. cond (ltb (count_trailing_zeros 64 set) n) (Some (k + 1)) None) (zero-add (count_trailing_zeros 64 set))
    ∙ cond_then_some (ltb (count_trailing_zeros 64 set) n) (count_trailing_zeros 64 set + 1)

pub no_bits : (k : ℕ) → bit 0 k ≡ false
no_bits k = ⊎_elim (λ h. absurd (none_bit k (eqb-true _ 1 h))) (λ h. h) (cases_Bool (bit 0 k))
