-- Each marked word is allowed by the sets of its model.
use Rattle.std.proofs.Common.{ℕ, List, [], ◌∷◌, ◌++◌, sym, refl, subst, inl, inr, append-nil}
use Rattle.codes.specs.Tree.{empty, leaf, then, either, maybe, many, some}
use Rattle.language.specs.Words.{Expr, Marked, Each, joined}
use Rattle.language.specs.Sets.{Last, Follow, Local}
use Rattle.language.proofs.Runs.{run_wider, run_join}

-- two words of the parts make a word of `then`
then_local : (l r : Expr) (u v : List ℕ) → Local l u → Local r v → Local (then l r) (u ++ v)
then_local l r [] [] h k = (h, k)
then_local l r [] (y ∷ v) h k = (
  inr (h, k.0),
  run_wider (Follow r) (Follow (then l r)) (Last r) (Last (then l r)) (λ a b p. inl (inr p)) (λ a p. inl p) y v k.1,
)
then_local l r (x ∷ u) [] h k =
    rw (append-nil u) (
      inl h.0,
      run_wider (Follow l) (Follow (then l r)) (Last l) (Last (then l r)) (λ a b p. inl (inl p)) (λ a p. inr (k, p)) x u h.1,
    )
then_local l r (x ∷ u) (y ∷ v) h k = (
  inl h.0,
  run_join (Follow (then l r)) (Last l) (Last (then l r)) y v (λ a p. inr (p, k.0))
      (run_wider (Follow r) (Follow (then l r)) (Last r) (Last (then l r)) (λ a b p. inl (inr p)) (λ a p. inl p) y v k.1)
      x u (run_wider (Follow l) (Follow (then l r)) (Last l) (Last l) (λ a b p. inl (inl p)) (λ a p. p) x u h.1),
)

-- words of e joined, none or more, make a word of `many`
many_first : (e : Expr) (w : List ℕ) → Local e w → Local (many e) w
many_first e [] h = tt
many_first e (x ∷ w) h =
    (h.0, run_wider (Follow e) (Follow (many e)) (Last e) (Last (many e)) (λ a b p. inl p) (λ a p. p) x w h.1)

many_join : (e : Expr) (u v : List ℕ) → Local e u → Local (many e) v → Local (many e) (u ++ v)
many_join e [] v h k = k
many_join e (x ∷ u) [] h k = rw (append-nil u) (many_first e (x ∷ u) h)
many_join e (x ∷ u) (y ∷ v) h k = (
  h.0,
  run_join (Follow (many e)) (Last e) (Last (many e)) y v (λ a p. inr (p, k.0)) k.1 x u
      (run_wider (Follow e) (Follow (many e)) (Last e) (Last e) (λ a b p. inl p) (λ a p. p) x u h.1),
)

many_local : (e : Expr) → ((w : List ℕ) → Marked e w → Local e w)
    → (ps : List (List ℕ)) → Each (Marked e) ps → Local (many e) (joined ps)
many_local e ih [] h = tt
many_local e ih (p ∷ ps) h = many_join e p (joined ps) (ih p h.0) (many_local e ih ps h.1)

-- one word of e and then words of `many` make a word of `some`
some_join : (e : Expr) (u v : List ℕ) → Local e u → Local (many e) v → Local (some e) (u ++ v)
some_join e [] [] h k = h
some_join e [] (y ∷ v) h k = k
some_join e (x ∷ u) v h k = many_join e (x ∷ u) v h k

either_left : (l r : Expr) (w : List ℕ) → Local l w → Local (either l r) w
either_left l r [] h = inl h
either_left l r (x ∷ w) h =
    (inl h.0, run_wider (Follow l) (Follow (either l r)) (Last l) (Last (either l r)) (λ a b p. inl p) (λ a p. inl p) x w h.1)

either_right : (l r : Expr) (w : List ℕ) → Local r w → Local (either l r) w
either_right l r [] h = inr h
either_right l r (x ∷ w) h =
    (inr h.0, run_wider (Follow r) (Follow (either l r)) (Last r) (Last (either l r)) (λ a b p. inr p) (λ a p. inr p) x w h.1)

maybe_local : (e : Expr) (w : List ℕ) → Local e w → Local (maybe e) w
maybe_local e [] h = tt
maybe_local e (x ∷ w) h = h

pub sound : (e : Expr) (w : List ℕ) → Marked e w → Local e w
sound empty w m = subst (Local empty) (sym m) tt
sound (leaf k) w m = subst (Local (leaf k)) (sym m) (refl, refl)
sound (then l r) w m =
    subst (Local (then l r)) (sym m.2) (then_local l r m.0 m.1 (sound l m.0 m.3) (sound r m.1 m.4))
sound (either l r) w (inl m) = either_left l r w (sound l w m)
sound (either l r) w (inr m) = either_right l r w (sound r w m)
sound (maybe e) w (inl m) = subst (Local (maybe e)) (sym m) tt
sound (maybe e) w (inr m) = maybe_local e w (sound e w m)
sound (many e) w m = subst (Local (many e)) (sym m.1) (many_local e (sound e) m.0 m.2)
sound (some e) w m =
    subst (Local (some e)) (sym m.2)
    (some_join e m.0 (joined m.1) (sound e m.0 m.3) (many_local e (sound e) m.1 m.4))
