-- There is one list of the same nodes in the order of their least words.
use Rattle.std.proofs.Common.{◌≡◌, ℕ, zero, suc, ◌<◌, ◌⊎◌, List, [], ◌∷◌, length, get_or, sym, refl, subst, inl, inr, arith}
use Rattle.walk.specs.Order.{Word, Before}
use Rattle.walk.specs.Graph.{LabelledGraph, LeastTo}
use Rattle.walk.specs.Entry.{On, InOrder}
use Rattle.walk.specs.Laws.{OneOrder}
use Rattle.walk.proofs.Words.{before_not}

rest_in_order : {G : LabelledGraph} {x : ℕ} {xs : List ℕ} → InOrder G (x ∷ xs) → InOrder G xs
rest_in_order A =
    record {
      least = λ i p. A.least (suc i) (omega arith);
      rising = λ i j p q. A.rising (suc i) (suc j) (omega arith) (omega arith);
      once = λ i j p q e. let s : suc i ≡ suc j = A.once (suc i) (suc j) (omega arith) (omega arith) e in omega arith;
    }

at_front : (x : ℕ) (xs : List ℕ) → On (x ∷ xs) x
at_front x xs = (0, omega arith, refl)

further : (x z : ℕ) (xs : List ℕ) → On xs z → On (x ∷ xs) z
further x z xs o = (suc o.0, omega (arith, o.1), o.2)

place_split : (x z : ℕ) (xs : List ℕ) (i : ℕ) → i < length (x ∷ xs) → get_or (x ∷ xs) i 0 ≡ z → (x ≡ z) ⊎ On xs z
place_split x z xs zero p e = inl e
place_split x z xs (suc i) p e = inr (i, omega arith, e)

-- a node of the list is the first, or stands on the rest
split : (x z : ℕ) (xs : List ℕ) → On (x ∷ xs) z → (x ≡ z) ⊎ On xs z
split x z xs o = place_split x z xs o.0 o.1 o.2

module _ (G : LabelledGraph) where
  front_before : (x z : ℕ) (xs : List ℕ) → InOrder G (x ∷ xs) → On xs z → (u v : Word) → LeastTo G u x → LeastTo G v z → Before u v
  front_before x z xs A o u v U V = A.rising 0 (suc o.0) (omega arith) (omega (arith, o.1)) u v U (subst (LeastTo G v) (sym o.2) V)

  front_once : (x : ℕ) (xs : List ℕ) → InOrder G (x ∷ xs) → On xs x → ⊥
  front_once x xs A o = let e : 0 ≡ suc o.0 = A.once 0 (suc o.0) (omega arith) (omega (arith, o.1)) (sym o.2) in omega arith

  fronts : (x y : ℕ) (xs ys : List ℕ) → InOrder G (x ∷ xs) → InOrder G (y ∷ ys) → On (y ∷ ys) x → On (x ∷ xs) y → x ≡ y
  fronts x y xs ys A B p q =
      elim (split y x ys p) [
        | inl e ↦ sym e
        | inr o ↦ elim (split x y xs q) [
          | inl e ↦ e
          | inr r ↦
              (let u = A.least 0 (omega arith) in
              let v = B.least 0 (omega arith) in
              absurd (before_not u.0 v.0 (front_before x y xs A r u.0 v.0 u.1 v.1) (inr (front_before y x ys B o v.0 u.0 v.1 u.1))))
        ]
      ]

  -- the rest of one list stands on the rest of the other
  rests : (x : ℕ) (xs ys : List ℕ) → InOrder G (x ∷ xs) → ((z : ℕ) → On (x ∷ xs) z → On (x ∷ ys) z) → (z : ℕ) → On xs z → On ys z
  rests x xs ys A f z o =
      elim (split x z ys (f z (further x z xs o))) [ inl e ↦ absurd (front_once x xs A (subst (On xs) (sym e) o)) | inr r ↦ r ]

  one_list : (xs ys : List ℕ) → InOrder G xs → InOrder G ys → ((x : ℕ) → On xs x → On ys x) → ((x : ℕ) → On ys x → On xs x) → xs ≡ ys
  one_list [] [] A B f g = refl
  one_list [] (y ∷ ys) A B f g = absurd (let o = g y (at_front y ys) in let z : ⊥ = omega (arith, o.1) in z)
  one_list (x ∷ xs) [] A B f g = absurd (let o = f x (at_front x xs) in let z : ⊥ = omega (arith, o.1) in z)
  one_list (x ∷ xs) (y ∷ ys) A B f g =
      let e : x ≡ y = fronts x y xs ys A B (f x (at_front x xs)) (g y (at_front y ys)) in
      let B' : InOrder G (x ∷ ys) = rw e B in
      let f' : (z : ℕ) → On (x ∷ xs) z → On (x ∷ ys) z = λ z o. subst (λ n. On (n ∷ ys) z) (sym e) (f z o) in
      let g' : (z : ℕ) → On (x ∷ ys) z → On (x ∷ xs) z = λ z o. g z (subst (λ n. On (n ∷ ys) z) e o) in
      let r : xs ≡ ys = one_list xs ys (rest_in_order A) (rest_in_order B') (rests x xs ys A f') (rests x ys xs B' g') in
      cc

pub one : OneOrder
one G = one_list G
