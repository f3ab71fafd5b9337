-- Building and writing in postfix order are inverse.
use Rattle.std.proofs.Common.{◌≡◌, ℕ, zero, suc, ◌+◌, ◌<◌, ◌≤◌, Bool, true, false, ltb, List, [], ◌∷◌, ◌++◌, length, sym, refl, ap, ◌∙◌, append_assoc, append-nil, arith}
use Rattle.std.proofs.lemmas.Bool.{lt-ltb, ltb-true, eq-eqb}
use Rattle.codes.specs.Tree.{Tree, empty, leaf, then, either, maybe, many, some, postfix, leaves}
use Rattle.codes.specs.Build.{Next, goes, stops, model, fresh, unary, binary, step, all_used, after, build_on, build}
use Rattle.codes.specs.Checked.{above, CodesOf}
use Rattle.codes.proofs.Numbers.{above_cut, above_push, length_above}

-- from any stack on, the codes of a tree put it on top
pub record Puts (n i u k : ℕ) (e : Tree ℕ) (s : List (Tree ℕ)) (cs : List ℕ) : Type 0 where
  pub index : ℕ
  pub on : build_on n i s u (postfix e ++ cs) ≡ build_on n index (e ∷ s) (u + k) cs

module _ (n : ℕ) where
  fresh_puts : (i u k a : ℕ) (s : List (Tree ℕ)) (cs : List ℕ) → u < n → u + 1 ≡ u + k → u + 1 ≡ a
      → after i (λ t m. build_on n (i + 1) t m cs) (fresh (ltb u n) s u) ≡ build_on n (i + 1) (leaf a ∷ s) (u + k) cs
  fresh_puts i u k a s cs h p q =
      ap (λ (b : Bool). after i (λ t m. build_on n (i + 1) t m cs) (fresh b s u)) (lt-ltb u n h)
      ∙ ap (λ (x : ℕ). build_on n (i + 1) (leaf x ∷ s) (u + 1) cs) q
      ∙ ap (λ (x : ℕ). build_on n (i + 1) (leaf a ∷ s) x cs) p

  pub tree_puts : (e : Tree ℕ) (i u k : ℕ) (s : List (Tree ℕ)) (cs : List ℕ) → leaves e ≡ above u k → u + k ≤ n → Puts n i u k e s cs
  tree_puts empty i u k s cs p h =
      let z : k ≡ 0 = sym (length_above u k) ∙ sym (ap length p) in
      let q : u ≡ u + k = omega arith in
      record { index = i + 1; on = ap (λ (x : ℕ). build_on n (i + 1) (empty ∷ s) x cs) q }
  tree_puts (leaf a) i u zero s cs p h = absurd (let z : ◌≡◌ {A = ℕ} 0 1 = cc in omega arith)
  tree_puts (leaf a) i u (suc k) s cs p h =
      let z : suc k ≡ 1 = sym (length_above u (suc k)) ∙ sym (ap length p) in
      let q : u + 1 ≡ a = cc in
      record { index = i + 1; on = fresh_puts i u (suc k) a s cs (omega arith) (omega arith) q }
  tree_puts (then l r) i u k s cs p h =
      let c = above_cut u k (leaves l) (leaves r) p in
      let a = tree_puts l i u c.first s (postfix r ++ (2 ∷ cs)) c.left (omega (arith, c.sum)) in
      let b = tree_puts r a.index (u + c.first) c.second (l ∷ s) (2 ∷ cs) c.right (omega (arith, c.sum)) in
      let q : u + c.first + c.second ≡ u + k = omega (arith, c.sum) in
      record {
        index = b.index + 1;
        on = rw (append_assoc (postfix l) (postfix r ++ (2 ∷ [])) cs, append_assoc (postfix r) (2 ∷ []) cs)
            (a.on ∙ b.on ∙ ap (λ (x : ℕ). build_on n (b.index + 1) (then l r ∷ s) x cs) q);
      }
  tree_puts (either l r) i u k s cs p h =
      let c = above_cut u k (leaves l) (leaves r) p in
      let a = tree_puts l i u c.first s (postfix r ++ (3 ∷ cs)) c.left (omega (arith, c.sum)) in
      let b = tree_puts r a.index (u + c.first) c.second (l ∷ s) (3 ∷ cs) c.right (omega (arith, c.sum)) in
      let q : u + c.first + c.second ≡ u + k = omega (arith, c.sum) in
      record {
        index = b.index + 1;
        on = rw (append_assoc (postfix l) (postfix r ++ (3 ∷ [])) cs, append_assoc (postfix r) (3 ∷ []) cs)
            (a.on ∙ b.on ∙ ap (λ (x : ℕ). build_on n (b.index + 1) (either l r ∷ s) x cs) q);
      }
  tree_puts (maybe e) i u k s cs p h =
      let a = tree_puts e i u k s (4 ∷ cs) p h in
      record { index = a.index + 1; on = rw (append_assoc (postfix e) (4 ∷ []) cs) a.on }
  tree_puts (many e) i u k s cs p h =
      let a = tree_puts e i u k s (5 ∷ cs) p h in
      record { index = a.index + 1; on = rw (append_assoc (postfix e) (5 ∷ []) cs) a.on }
  tree_puts (some e) i u k s cs p h =
      let a = tree_puts e i u k s (6 ∷ cs) p h in
      record { index = a.index + 1; on = rw (append_assoc (postfix e) (6 ∷ []) cs) a.on }

pub codes_build : {n : ℕ} {cs : List ℕ} {e : Tree ℕ} → CodesOf n cs e → build n cs ≡ model e
codes_build {n} {cs} {e} c =
    let a = tree_puts n e 0 0 n [] [] c.places (omega arith) in
    let z : 0 + n ≡ n = omega arith in
    ap (build n) (c.codes ∙ sym (append-nil (postfix e)))
    ∙ a.on
    ∙ ap (λ (b : Bool). all_used b a.index e) (eq-eqb (0 + n) n z)

-- the codes and the leaves of a stack, whose last part comes first
abbrev pub written : List (Tree ℕ) → List ℕ
written [] = []
written (e ∷ s) = written s ++ postfix e

abbrev pub seen : List (Tree ℕ) → List ℕ
seen [] = []
seen (e ∷ s) = seen s ++ leaves e

-- after the code c on the stack s
abbrev pub NextOk : ℕ → ℕ → List (Tree ℕ) → Next → Type 0
NextOk n c s (goes t m) = (written t ≡ written s ++ (c ∷ [])) × (seen t ≡ above 0 m) × (m ≤ n)
NextOk n c s stops = Unit {0}

module _ (n : ℕ) where
  binary_ok : (c : ℕ) (f : Tree ℕ → Tree ℕ → Tree ℕ) → ((l r : Tree ℕ) → postfix (f l r) ≡ postfix l ++ (postfix r ++ (c ∷ [])))
      → ((l r : Tree ℕ) → leaves (f l r) ≡ leaves l ++ leaves r)
      → (s : List (Tree ℕ)) (u : ℕ) → seen s ≡ above 0 u → u ≤ n → NextOk n c s (binary f s u)
  binary_ok c f p q [] u h k = tt
  binary_ok c f p q (r ∷ []) u h k = tt
  binary_ok c f p q (r ∷ (l ∷ s)) u h k = (
    rw (p l r, append_assoc (written s ++ postfix l) (postfix r) (c ∷ []), append_assoc (written s) (postfix l) (postfix r ++ (c ∷ []))),
    rw (q l r) (sym (append_assoc (seen s) (leaves l) (leaves r)) ∙ h),
    k,
  )

  unary_ok : (c : ℕ) (f : Tree ℕ → Tree ℕ) → ((e : Tree ℕ) → postfix (f e) ≡ postfix e ++ (c ∷ []))
      → ((e : Tree ℕ) → leaves (f e) ≡ leaves e)
      → (s : List (Tree ℕ)) (u : ℕ) → seen s ≡ above 0 u → u ≤ n → NextOk n c s (unary f s u)
  unary_ok c f p q [] u h k = tt
  unary_ok c f p q (e ∷ s) u h k = (rw (p e, append_assoc (written s) (postfix e) (c ∷ [])), rw (q e) h, k)

  fresh_ok : (b : Bool) (s : List (Tree ℕ)) (u : ℕ) → ltb u n ≡ b → seen s ≡ above 0 u → NextOk n 1 s (fresh b s u)
  fresh_ok true s u e h =
      let z : u + 1 ≡ 0 + u + 1 = omega arith in
      let l = ltb-true u n e in
      (refl, rw h (ap (λ (x : ℕ). above 0 u ++ (x ∷ [])) z ∙ above_push 0 u), omega arith)
  fresh_ok false s u e h = tt

  pub step_ok : (c : ℕ) (s : List (Tree ℕ)) (u : ℕ) → seen s ≡ above 0 u → u ≤ n → NextOk n c s (step n c s u)
  step_ok zero s u h k = (refl, append-nil (seen s) ∙ h, k)
  step_ok (suc zero) s u h k = fresh_ok (ltb u n) s u refl h
  step_ok (suc (suc zero)) s u h k = binary_ok 2 then (λ l r. refl) (λ l r. refl) s u h k
  step_ok (suc (suc (suc zero))) s u h k = binary_ok 3 either (λ l r. refl) (λ l r. refl) s u h k
  step_ok (suc (suc (suc (suc zero)))) s u h k = unary_ok 4 maybe (λ e. refl) (λ e. refl) s u h k
  step_ok (suc (suc (suc (suc (suc zero))))) s u h k = unary_ok 5 many (λ e. refl) (λ e. refl) s u h k
  step_ok (suc (suc (suc (suc (suc (suc zero)))))) s u h k = unary_ok 6 some (λ e. refl) (λ e. refl) s u h k
  step_ok (suc (suc (suc (suc (suc (suc (suc c))))))) s u h k = tt
