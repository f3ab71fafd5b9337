-- Numbers as sets: unions, single positions, and that the bits determine the number.
use Rattle.std.proofs.Common.{◌≡◌, ℕ, zero, suc, ◌+◌, ◌-◌, ◌*◌, ◌/◌, ◌%◌, ◌^◌, ◌<◌, ◌≤◌, max, Bool, true, false, cond, ◌&&◌, ◌||◌, ◌⊎◌, Decides, sym, refl, ap, ◌∙◌, subst, inl, inr, add-one, one-add, arith, pow-add, shr_lt}
use lib.Bits.{bit_or, or_step, or_shr}
use lib.Pow.{shl-shr, pow-lt}
use Rattle.std.proofs.lemmas.Nat.{one_shl, shr-shr, shr_split, shr_below, shr_le, mod_below, pow_pos}
use Rattle.std.proofs.lemmas.Bool.{cases_order, cases_eq, cases_lt}
use Rattle.std.proofs.lemmas.Bool.Decides.{Decides-and, Decides-or}
use Rattle.models.specs.declared.tables.Sets.{Sets}
use Rattle.codes.specs.Tree.{leaf, then, either}
use Rattle.language.specs.Words.{Expr}
use Rattle.language.specs.Sets.{Nullable, First, Last}
use Rattle.models.specs.Bitsets.{Bit, ShowsSet}
use Rattle.models.specs.Machine.{Shows}

false_true : false ≡ true → ⊥
false_true e = let z : ◌≡◌ {A = ℕ} 0 1 = cc in omega arith

low_or : (a b : ℕ) → bit_or a b % 2 ≡ max (a % 2) (b % 2)
low_or a b = omega (arith, or_step a b)

or_bit : (a b k : ℕ) → bit_or a b / 2 ^ k % 2 ≡ max (a / 2 ^ k % 2) (b / 2 ^ k % 2)
or_bit a b k = ap (λ n. n % 2) (or_shr a b k) ∙ low_or (a / 2 ^ k) (b / 2 ^ k)

one_of : (x y : ℕ) → x < 2 → y < 2 → max x y ≡ 1 → (x ≡ 1) ⊎ (y ≡ 1)
one_of zero y h k e = inr (omega arith)
one_of (suc x) y h k e = inl (omega arith)

pub Bit-bit_or : (a b k : ℕ) → Bit (bit_or a b) k → Bit a k ⊎ Bit b k
Bit-bit_or a b k h = one_of (a / 2 ^ k % 2) (b / 2 ^ k % 2) (omega arith) (omega arith) (sym (or_bit a b k) ∙ h)

pub or_left : (a b k : ℕ) → Bit a k → Bit (bit_or a b) k
or_left a b k h = omega (arith, or_bit a b k)

pub or_right : (a b k : ℕ) → Bit b k → Bit (bit_or a b) k
or_right a b k h = omega (arith, or_bit a b k)

-- a union
pub or_set : (a b : ℕ) (P Q R : ℕ → Type 0) → ShowsSet a P → ShowsSet b Q
    → ((x : ℕ) → P x ⊎ Q x → R x) → ((x : ℕ) → R x → P x ⊎ Q x) → ShowsSet (bit_or a b) R
or_set a b P Q R p q f g k = (
  (λ h. elim (Bit-bit_or a b k h) [ inl m ↦ f (k + 1) (inl ((p k).0 m)) | inr m ↦ f (k + 1) (inr ((q k).0 m)) ]),
  (λ h. elim (g (k + 1) h) [ inl m ↦ or_left a b k ((p k).1 m) | inr m ↦ or_right a b k ((q k).1 m) ]),
)

-- a union where b says so, for the first and the last of `then`
pub with_set : (t : Bool) (a b : ℕ) (N : Type 0) (P Q : ℕ → Type 0) → Decides t N → ShowsSet a P → ShowsSet b Q
    → ShowsSet (cond t (bit_or a b) a) (λ x. P x ⊎ (N × Q x))
with_set true a b N P Q d p q =
    or_set a b P Q (λ x. P x ⊎ (N × Q x)) p q
    (λ x h. elim h [ inl m ↦ inl m | inr m ↦ inr (d.0 refl, m) ])
    (λ x h. elim h [ inl m ↦ inl m | inr m ↦ inr m.1 ])
with_set false a b N P Q d p q =
    λ k. ((λ h. inl ((p k).0 h)), (λ h. elim h [ inl m ↦ (p k).1 m | inr m ↦ absurd (false_true (d.1 m.0)) ]))

-- one position
bit_same : (k : ℕ) → Bit (2 ^ k) k
bit_same k = let e : 1 * 2 ^ k ≡ 2 ^ k = omega arith in subst (λ n. Bit n k) e (ap (λ n. n % 2) (shl-shr 1 k))

bit_below : (k j : ℕ) → j < k → Bit (2 ^ k) j → ⊥
bit_below k j h b =
    let m : ℕ = k - j - 1 in
    let e : k ≡ m + 1 + j = omega arith in
    let p : 2 ^ k ≡ 2 ^ m * 2 * 2 ^ j = ap (λ n. 2 ^ n) e ∙ pow-add 2 (m + 1) j ∙ ap (λ n. n * 2 ^ j) (pow-add 2 m 1) in
    let q : 2 ^ k / 2 ^ j ≡ 2 ^ m * 2 = ap (λ n. n / 2 ^ j) p ∙ shl-shr (2 ^ m * 2) j in
    omega arith

bit_above : (k j : ℕ) → k < j → Bit (2 ^ k) j → ⊥
bit_above k j h b =
    let s : 2 ^ k < 2 ^ (0 + j) = pow-lt (omega arith) in
    let t : 2 ^ k / 2 ^ j < 2 ^ 0 = shr_lt 0 j s in
    omega arith

pub bit_only : (k j : ℕ) → Bit (2 ^ k) j → j ≡ k
bit_only k j b = elim (cases_order j k) [ inl e ↦ e | inr (inl h) ↦ absurd (bit_below k j h b) | inr (inr h) ↦ absurd (bit_above k j h b) ]

pub only_set : (k : ℕ) → ShowsSet (2 ^ k) (λ x. x ≡ k + 1)
only_set k j = (
  (λ h. ap (λ n. n + 1) (bit_only k j h)),
  (λ h. let e : k ≡ j = omega arith in subst (λ n. Bit (2 ^ k) n) e (bit_same k)),
)

-- the parts
pub leaf_shows : (k : ℕ) → k < 64 → Shows (record { nullable = false; first = (1 * 2 ^ k) % 2 ^ 64; last = (1 * 2 ^ k) % 2 ^ 64 }) (leaf (k + 1))
leaf_shows k h =
    let s : ShowsSet ((1 * 2 ^ k) % 2 ^ 64) (λ x. x ≡ k + 1) = subst (λ n. ShowsSet n (λ x. x ≡ k + 1)) (sym (one_shl k 64 h)) (only_set k) in
    record { null = (false_true, (λ e. absurd e)); begin = s; end = s }

pub then_shows : (l r t : Sets) (e f : Expr) → t.nullable ≡ (l.nullable && r.nullable) → t.first ≡ cond l.nullable (bit_or l.first r.first) l.first
    → t.last ≡ cond r.nullable (bit_or r.last l.last) r.last → Shows l e → Shows r f → Shows t (then e f)
then_shows l r t e f a b c p q =
    record {
      null = rw a (Decides-and l.nullable r.nullable p.null q.null);
      begin = rw b (with_set l.nullable l.first r.first (Nullable e) (First e) (First f) p.null p.begin q.begin);
      end = rw c (with_set r.nullable r.last l.last (Nullable f) (Last f) (Last e) q.null q.end p.end);
    }

pub either_shows : (l r : Sets) (e f : Expr) → Shows l e → Shows r f
    → Shows (record { nullable = l.nullable || r.nullable; first = bit_or l.first r.first; last = bit_or l.last r.last }) (either e f)
either_shows l r e f p q =
    record {
      null = Decides-or l.nullable r.nullable p.null q.null;
      begin = or_set l.first r.first (First e) (First f) (First (either e f)) p.begin q.begin (λ x h. h) (λ x h. h);
      end = or_set l.last r.last (Last e) (Last f) (Last (either e f)) p.end q.end (λ x h. h) (λ x h. h);
    }

-- the number of the empty set
pub none_bit : (k : ℕ) → Bit 0 k → ⊥
none_bit k b = omega (arith, shr_le 0 k)

-- a number whose bits are all below n
pow_step : (n : ℕ) → 2 ^ suc n ≡ 2 ^ n * 2
pow_step n = ap (λ j. 2 ^ j) (sym (add-one n)) ∙ pow-add 2 n 1

grows : (n : ℕ) → n < 2 ^ n
grows zero = omega arith
grows (suc n) = let h = grows n in let p = pow_step n in omega arith

lower : (a w n : ℕ) → ((k : ℕ) → n ≤ k → Bit a k → ⊥) → n ≤ w → a < 2 ^ suc w → a < 2 ^ w
lower a w n f h l =
    let two : a / 2 ^ w < 2 = shr_below a 1 w (subst (λ j. a < 2 ^ j) (sym (one-add w)) l) in
    let none : a / 2 ^ w ≡ 0 = elim (cases_eq (a / 2 ^ w % 2) 1) [ inl e ↦ absurd (f w h e) | inr ne ↦ omega arith ] in
    let rest = mod_below a (2 ^ w) (pow_pos w) in
    let whole : a ≡ 0 * 2 ^ w + a % 2 ^ w = sym (shr_split a w) ∙ ap (λ q. q * 2 ^ w + a % 2 ^ w) none in
    omega arith

lowered : (j a n : ℕ) → ((k : ℕ) → n ≤ k → Bit a k → ⊥) → a < 2 ^ (n + j) → a < 2 ^ n
lowered zero a n f h = let e : n + 0 ≡ n = omega arith in subst (λ j. a < 2 ^ j) e h
lowered (suc j) a n f h =
    let e : n + suc j ≡ suc (n + j) = omega arith in
    lowered j a n f (lower a (n + j) n f (omega arith) (subst (λ i. a < 2 ^ i) e h))

pub bits_below : (a n : ℕ) → ((k : ℕ) → n ≤ k → Bit a k → ⊥) → a < 2 ^ n
bits_below a n f = let g = grows (n + a) in lowered a a n f (omega arith)

-- the bits determine the number
bit_half : (a k : ℕ) → a / 2 / 2 ^ k ≡ a / 2 ^ suc k
bit_half a k = shr-shr a 1 k ∙ ap (λ j. a / 2 ^ j) (one-add k)

half_below : (a n : ℕ) → a < 2 ^ suc n → a / 2 < 2 ^ n
half_below a n h = shr_below a n 1 (subst (λ j. a < 2 ^ j) (sym (add-one n)) h)

low_bit : (a b : ℕ) → (Bit a 0 → Bit b 0) → (Bit b 0 → Bit a 0) → a % 2 ≡ b % 2
low_bit a b f g =
    elim (cases_eq (a / 2 ^ 0 % 2) 1) [
      | inl e ↦ (let h = f e in omega arith)
      | inr ne ↦ elim (cases_eq (b / 2 ^ 0 % 2) 1) [ inl e ↦ absurd (ne (g e)) | inr nb ↦ omega arith ]
    ]

pub same_bits : (n a b : ℕ) → a < 2 ^ n → b < 2 ^ n → ((k : ℕ) → Bit a k → Bit b k) → ((k : ℕ) → Bit b k → Bit a k) → a ≡ b
same_bits zero a b h k f g = omega arith
same_bits (suc n) a b h k f g =
    let halves = same_bits n (a / 2) (b / 2) (half_below a n h) (half_below b n k)
    (λ j p. ap (λ x. x % 2) (bit_half b j) ∙ f (suc j) (sym (ap (λ x. x % 2) (bit_half a j)) ∙ p))
    (λ j p. ap (λ x. x % 2) (bit_half a j) ∙ g (suc j) (sym (ap (λ x. x % 2) (bit_half b j)) ∙ p)) in
    let low = low_bit a b (f 0) (g 0) in
    omega arith

-- two numbers that show one set
pub same_set : (n a b : ℕ) (P : ℕ → Type 0) → a < 2 ^ n → b < 2 ^ n → ShowsSet a P → ShowsSet b P → a ≡ b
same_set n a b P h k p q = same_bits n a b h k (λ j m. (q j).1 ((p j).0 m)) (λ j m. (p j).1 ((q j).0 m))

-- a number that shows a set of positions up to n
pub set_below : (n a : ℕ) (P : ℕ → Type 0) → ((x : ℕ) → P x → x ≤ n) → ShowsSet a P → a < 2 ^ n
set_below n a P f p = bits_below a n (λ k h b. let l = f (k + 1) ((p k).0 b) in omega arith)

-- a number below 2 ^ n has no bit past n
pub bit_within : (n a k : ℕ) → a < 2 ^ n → Bit a k → k < n
bit_within n a k h b =
    elim (cases_lt k n) [
      | inl l ↦ l
      | inr l ↦ (let e : n ≡ 0 + n = omega arith in
          let below : a / 2 ^ n < 2 ^ 0 = shr_below a 0 n (subst (λ j. a < 2 ^ j) e h) in
          let j : n + (k - n) ≡ k = omega arith in
          let q : a / 2 ^ n / 2 ^ (k - n) ≡ a / 2 ^ k = shr-shr a n (k - n) ∙ ap (λ i. a / 2 ^ i) j in
          let z = shr_le (a / 2 ^ n) (k - n) in
          absurd (omega arith))
    ]
