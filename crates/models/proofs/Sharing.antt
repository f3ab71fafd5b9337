-- The positions that share a set with one, row by row.
use Rattle.std.proofs.Common.{◌≡◌, ℕ, ◌+◌, Bool, true, false, cond, ◌⊎◌, List, length, get_or, Decides, refl, subst, inl, inr, arith}
use lib.Bits.{bit_or}
use Rattle.std.proofs.lemmas.Bool.{cases_lt, false≢true}
use Rattle.models.specs.Bitsets.{Bit, bit}
use Rattle.models.specs.Clashes.{Share, Shares, Opposes, Clash}
use Rattle.models.proofs.Bitsets.{Bit-bit_or, or_left, or_right, none_bit}
use Rattle.models.proofs.Stacks.{bit_decides}

none_share : (first : ℕ) (rows : List ℕ) (x : ℕ) (b : Bool) → Decides b (Bit first x) → Shares (cond b first 0) first rows 0 x
none_share first rows x true d y =
    ((λ h. inl (d.0 refl, h)), (λ s. elim s [ inl p ↦ p.1 | inr p ↦ absurd (omega (arith, p.1)) ]))
none_share first rows x false d y = (
  (λ h. absurd (none_bit y h)),
  (λ s. elim s [ inl p ↦ absurd (false≢true (d.1 p.0)) | inr p ↦ absurd (omega (arith, p.1)) ]),
)

pub share_none : (first : ℕ) (rows : List ℕ) (x : ℕ) → Shares (cond (bit first x) first 0) first rows 0 x
share_none first rows x = none_share first rows x (bit first x) (bit_decides first x)

module _ (first : ℕ) (rows : List ℕ) (i x : ℕ) where
  abbrev row : ℕ
  row = get_or rows i 0

  share_wider : (y : ℕ) → Share first rows i x y → Share first rows (i + 1) x y
  share_wider y (inl p) = inl p
  share_wider y (inr p) = inr (p.0, omega (arith, p.1), p.2, p.3)

  share_split : (y : ℕ) → Share first rows (i + 1) x y → Share first rows i x y ⊎ (Bit row x × Bit row y)
  share_split y (inl p) = inl (inl p)
  share_split y (inr p) =
      elim (cases_lt p.0 i) [
        | inl h ↦ inl (inr (p.0, h, p.2, p.3))
        | inr h ↦ (let e : p.0 ≡ i = omega (arith, p.1, h) in inr (subst (λ z. Bit (get_or rows z 0) x) e p.2, subst (λ z. Bit (get_or rows z 0) y) e p.3))
      ]

  one_share : (a : ℕ) (b : Bool) → Decides b (Bit row x) → Shares a first rows i x → Shares (cond b (bit_or a row) a) first rows (i + 1) x
  one_share a true d s y = (
    (λ h. elim (Bit-bit_or a row y h) [ inl m ↦ share_wider y ((s y).0 m) | inr m ↦ inr (i, omega arith, d.0 refl, m) ]),
    (λ p. elim (share_split y p) [ inl q ↦ or_left a row y ((s y).1 q) | inr q ↦ or_right a row y q.1 ]),
  )
  one_share a false d s y = (
    (λ h. share_wider y ((s y).0 h)),
    (λ p. elim (share_split y p) [ inl q ↦ (s y).1 q | inr q ↦ absurd (false≢true (d.1 q.0)) ]),
  )

  pub share_more : (a : ℕ) → Shares a first rows i x → Shares (cond (bit row x) (bit_or a row) a) first rows (i + 1) x
  share_more a s = one_share a (bit row x) (bit_decides row x) s

-- a pair that clashes is one of a set that shares
module _ {S : Type 0} (same : S → S → Bool) (xs : List S) (a first : ℕ) (rows : List ℕ) (x y : ℕ) (s : Shares a first rows (length rows) x) where
  pub opposes_clash : Opposes same xs a x y → Clash same xs first rows x y
  opposes_clash o = record { rising = o.rising; within = o.within; agreed = o.agreed; share = (s y).0 o.set }

  pub clash_opposes : Clash same xs first rows x y → Opposes same xs a x y
  clash_opposes o = record { rising = o.rising; within = o.within; agreed = o.agreed; set = (s y).1 o.share }
