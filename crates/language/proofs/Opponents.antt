-- Where two marked words part, by the sets of the model.
use Rattle.std.proofs.Common.{ℕ, ◌⊎◌, List, [], ◌∷◌, ◌++◌, inl, inr, append_assoc}
use Rattle.language.specs.Words.{Expr, Marked, Parts}
use Rattle.language.specs.Sets.{Distinct, First, Last, Follow, Run, Local}
use Rattle.language.proofs.Runs.{run_swap}
use Rattle.language.proofs.Sound.{sound}
use Rattle.language.proofs.Whole.{whole}
use Rattle.language.proofs.Exact.{first_begins, follow_follows, local_rest}

-- x and y are both in the first set, or both in the set of followers of one position
abbrev pub Together : Expr → ℕ → ℕ → Type 0
Together e x y = (First e x × First e y) ⊎ ((z : ℕ) × Follow e z x × Follow e z y)

run_parts : (F : ℕ → ℕ → Type 0) (L : ℕ → Type 0) (x y : ℕ) (v v' u : List ℕ) (z : ℕ)
    → Run F L z (u ++ (x ∷ v)) → Run F L z (u ++ (y ∷ v')) → (a : ℕ) × F a x × F a y
run_parts F L x y v v' [] z h k = (z, h.0, k.0)
run_parts F L x y v v' (b ∷ u) z h k = run_parts F L x y v v' u b h.1 k.1

local_parts : (e : Expr) (x y : ℕ) (v v' u : List ℕ) → Local e (u ++ (x ∷ v)) → Local e (u ++ (y ∷ v')) → Together e x y
local_parts e x y v v' [] h k = inl (h.0, k.0)
local_parts e x y v v' (z ∷ u) h k = inr (run_parts (Follow e) (Last e) x y v v' u z h.1 k.1)

local_swap : (e : Expr) (z : ℕ) (v v' u : List ℕ) → Local e (u ++ (z ∷ v)) → Run (Follow e) (Last e) z v' → Local e (u ++ (z ∷ v'))
local_swap e z v v' [] h k = (h.0, k)
local_swap e z v v' (a ∷ u) h k = (h.0, run_swap (Follow e) (Last e) z v v' u a h.1 k)

pub parts_together : (e : Expr) (x y : ℕ) → Parts e x y → Together e x y
parts_together e x y p =
    local_parts e x y p.1 p.2 p.0 (sound e (p.0 ++ (x ∷ p.1)) p.3) (sound e (p.0 ++ (y ∷ p.2)) p.4)

-- of one word up to z, and of another after z, a word
pub crossed : (e : Expr) → Distinct e → (z : ℕ) (u v u' v' : List ℕ)
    → Marked e (u ++ (z ∷ v)) → Marked e (u' ++ (z ∷ v')) → Marked e (u ++ (z ∷ v'))
crossed e d z u v u' v' m n =
    whole e d (u ++ (z ∷ v'))
    (local_swap e z v v' u (sound e (u ++ (z ∷ v)) m) (local_rest e z v' u' (sound e (u' ++ (z ∷ v')) n)))

pub together_parts : (e : Expr) → Distinct e → (x y : ℕ) → Together e x y → Parts e x y
together_parts e d x y (inl h) =
    let a = first_begins e x h.0 in let b = first_begins e y h.1 in ([], a.0, b.0, a.1, b.1)
together_parts e d x y (inr h) =
    let z = h.0 in
    let a = follow_follows e z x h.1 in
    let b = follow_follows e z y h.2 in (
      a.0 ++ (z ∷ []),
      a.1,
      b.1,
      rw append_assoc a.2,
      rw append_assoc (crossed e d z a.0 (x ∷ a.1) b.0 (y ∷ b.1) a.2 b.2),
    )
