-- What one code makes of the stack.
use Rattle.std.proofs.Common.{◌≡◌, ℕ, ◌+◌, ◌<◌, ltb, List, [], ◌∷◌, ◌++◌, length, Some, refl, ap, arith, length-append}
use Rattle.std.proofs.lemmas.Bool.{lt-ltb}
use Rattle.models.specs.declared.tables.Sets.{Sets}
use Rattle.codes.specs.Tree.{empty, leaf}
use Rattle.language.specs.Words.{Expr}
use Rattle.codes.specs.Build.{goes, fresh, unary, binary}
use Rattle.models.specs.Machine.{Shows, Stack, Rows, Advanced}
use Rattle.models.proofs.Stacks.{pushed, popped, rows_none}

module _ (ps qs : List Sets) (p : Sets) (rs : List ℕ) (u : ℕ) where
  pub empty_advanced : qs ≡ ps ++ p ∷ [] → Shows p empty → (s : List Expr) → Stack ps s → Rows rs s → Advanced (Some tt) (goes (empty ∷ s) u) qs u rs
  empty_advanced q h s k m = (empty ∷ s, refl, pushed ps qs p empty s q h k, rows_none rs empty s (λ x y f. f) m)

  pub leaf_advanced : (n : ℕ) → u < n → qs ≡ ps ++ p ∷ [] → Shows p (leaf (u + 1)) → (s : List Expr) → Stack ps s → Rows rs s
      → Advanced (Some tt) (fresh (ltb u n) s u) qs (u + 1) rs
  leaf_advanced n l q h s k m =
      (leaf (u + 1) ∷ s, ap (λ b. fresh b s u) (lt-ltb u n l), pushed ps qs p (leaf (u + 1)) s q h k, rows_none rs (leaf (u + 1)) s (λ x y f. f) m)

-- the stack ps has the part t on ls, qs has p there, and the rows rs become ts
module _ (f : Expr → Expr) (ps ls qs : List Sets) (t p : Sets) (rs ts : List ℕ) (u : ℕ) where
  pub unary_advanced : ps ≡ ls ++ t ∷ [] → qs ≡ ls ++ p ∷ [] → ((e : Expr) → Shows t e → Shows p (f e))
      → ((e : Expr) (s : List Expr) → Shows t e → Rows rs (e ∷ s) → Rows ts (f e ∷ s))
      → (s : List Expr) → Stack ps s → Rows rs s → Advanced (Some tt) (unary f s u) qs u ts
  unary_advanced a b h g [] k m = absurd (omega (arith, length-append ls (t ∷ []), ap length a, ap length k))
  unary_advanced a b h g (e ∷ s) k m =
      let one = popped ps ls t e s a k in
      (f e ∷ s, refl, pushed ls qs p (f e) s b (h e one.0) one.1, g e s one.0 m)

-- the stack ps has the part r on ms, which has l on ls; qs has p on ls, and the rows rs become ts
module _ (f : Expr → Expr → Expr) (ps ms ls qs : List Sets) (l r p : Sets) (rs ts : List ℕ) (u : ℕ) where
  pub binary_advanced : ps ≡ ms ++ r ∷ [] → ms ≡ ls ++ l ∷ [] → qs ≡ ls ++ p ∷ [] → ((d e : Expr) → Shows l d → Shows r e → Shows p (f d e))
      → ((d e : Expr) (s : List Expr) → Shows l d → Shows r e → Rows rs (e ∷ (d ∷ s)) → Rows ts (f d e ∷ s))
      → (s : List Expr) → Stack ps s → Rows rs s → Advanced (Some tt) (binary f s u) qs u ts
  binary_advanced a b c h g [] k m = absurd (omega (arith, length-append ms (r ∷ []), ap length a, ap length k))
  binary_advanced a b c h g (e ∷ []) k m =
      let one = popped ps ms r e [] a k in
      absurd (omega (arith, length-append ls (l ∷ []), ap length b, ap length one.1))
  binary_advanced a b c h g (e ∷ (d ∷ s)) k m =
      let one = popped ps ms r e (d ∷ s) a k in
      let two = popped ms ls l d s b one.1 in
      (f d e ∷ s, refl, pushed ls qs p (f d e) s c (h d e two.0 one.0) two.1, g d e s two.0 one.0 m)
