-- The words that the links give, from their last label on.
use Rattle.std.proofs.Common.{◌≡◌, ℕ, ◌+◌, ◌<◌, ◌≤◌, List, [], ◌∷◌, ◌++◌, length, get_or, refl, arith}
use Rattle.std.proofs.lemmas.List.{length_push}
use Rattle.walk.specs.Order.{Word}
use Rattle.walk.specs.Walk.{link_of, parent_of, label_of, Traced}
use Rattle.walk.specs.Walk.Traced.{origin, from}

-- the last link of a trace
pub record Last (links queue : List ℕ) (i : ℕ) (w : Word) : Type 0 where
  pub rest : Word
  pub link : ℕ
  pub is : get_or links (get_or queue i 0) 0 ≡ link
  pub traced : Traced links queue (parent_of link) rest
  pub ends : w ≡ rest ++ (label_of link) ∷ []
  pub long : length w ≡ length rest + 1
  pub falls : parent_of link < i
  pub place : i < length queue
  pub node : get_or queue i 0 < length links

pub last_link : {links queue : List ℕ} {i : ℕ} {w : Word} → Traced links queue i w → 0 < i → Last links queue i w
last_link origin z = absurd (let b : ⊥ = omega arith in b)
last_link {links} {queue} (from {i} {p} {l} {w} a b c e f t) z =
    let d : parent_of (link_of p l) ≡ p = omega arith in
    let m : label_of (link_of p l) ≡ l = omega arith in
    record { rest = w; link = link_of p l; is = e; traced = rw d t; ends = rw m; long = length_push w l; falls = rw d a; place = b; node = c }

pub traced_none : {links queue : List ℕ} {i : ℕ} {w : Word} → Traced links queue i w → i ≡ 0 → w ≡ []
traced_none origin e = refl
traced_none (from a b c d f t) e = absurd (let z : ⊥ = omega arith in z)

pub traced_short : {links queue : List ℕ} {i : ℕ} {w : Word} → Traced links queue i w → length w ≤ i
traced_short origin = omega arith
traced_short (from {i} {p} {l} {w} a b c d f t) = omega (arith, traced_short t, length_push w l)
