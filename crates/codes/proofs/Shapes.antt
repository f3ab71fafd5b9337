-- A tree is read off its codes and its leaves, so both determine it.
use Rattle.std.proofs.Common.{◌≡◌, ℕ, zero, suc, ◌+◌, List, [], ◌∷◌, ◌++◌, replicate, sym, refl, ap, ◌∙◌, append_assoc, arith}
use Rattle.std.proofs.lemmas.List.{replicate-append-replicate}
use Rattle.codes.specs.Tree.{Tree, empty, leaf, then, either, maybe, many, some, postfix, leaves}
use Rattle.codes.specs.Theorems.{shape}

module _ {A : Type 0} where
  abbrev top : (Tree A → Tree A) → List (Tree A) → List (Tree A)
  top f [] = []
  top f (e ∷ s) = f e ∷ s

  abbrev pair : (Tree A → Tree A → Tree A) → List (Tree A) → List (Tree A)
  pair f [] = []
  pair f (r ∷ []) = []
  pair f (r ∷ (l ∷ s)) = f l r ∷ s

  -- the parts that codes make of given leaves, the last first; what codes of no tree make is of no use
  abbrev made : List ℕ → List (Tree A) → List A → List (Tree A)
  made [] s xs = s
  made (zero ∷ cs) s xs = made cs (empty ∷ s) xs
  made (suc zero ∷ cs) s [] = []
  made (suc zero ∷ cs) s (a ∷ xs) = made cs (leaf a ∷ s) xs
  made (suc (suc zero) ∷ cs) s xs = made cs (pair then s) xs
  made (suc (suc (suc zero)) ∷ cs) s xs = made cs (pair either s) xs
  made (suc (suc (suc (suc zero))) ∷ cs) s xs = made cs (top maybe s) xs
  made (suc (suc (suc (suc (suc zero)))) ∷ cs) s xs = made cs (top many s) xs
  made (suc (suc (suc (suc (suc (suc zero))))) ∷ cs) s xs = made cs (top some s) xs
  made (suc (suc (suc (suc (suc (suc (suc c)))))) ∷ cs) s xs = []

  made_tree : (x : Tree A) (cs : List ℕ) (s : List (Tree A)) (xs : List A) → made (postfix x ++ cs) s (leaves x ++ xs) ≡ made cs (x ∷ s) xs
  made_tree empty cs s xs = refl
  made_tree (leaf a) cs s xs = refl
  made_tree (then l r) cs s xs =
      rw (append_assoc (postfix l) (postfix r ++ (2 ∷ [])) cs, append_assoc (postfix r) (2 ∷ []) cs, append_assoc (leaves l) (leaves r) xs)
      (made_tree l (postfix r ++ (2 ∷ cs)) s (leaves r ++ xs) ∙ made_tree r (2 ∷ cs) (l ∷ s) xs)
  made_tree (either l r) cs s xs =
      rw (append_assoc (postfix l) (postfix r ++ (3 ∷ [])) cs, append_assoc (postfix r) (3 ∷ []) cs, append_assoc (leaves l) (leaves r) xs)
      (made_tree l (postfix r ++ (3 ∷ cs)) s (leaves r ++ xs) ∙ made_tree r (3 ∷ cs) (l ∷ s) xs)
  made_tree (maybe e) cs s xs = rw (append_assoc (postfix e) (4 ∷ []) cs) (made_tree e (4 ∷ cs) s xs)
  made_tree (many e) cs s xs = rw (append_assoc (postfix e) (5 ∷ []) cs) (made_tree e (5 ∷ cs) s xs)
  made_tree (some e) cs s xs = rw (append_assoc (postfix e) (6 ∷ []) cs) (made_tree e (6 ∷ cs) s xs)

  pub same_tree : (x y : Tree A) → postfix x ≡ postfix y → leaves x ≡ leaves y → x ≡ y
  same_tree x y p q =
      let a : made (postfix x ++ []) [] (leaves x ++ []) ≡ x ∷ [] = made_tree x [] [] [] in
      let b : made (postfix y ++ []) [] (leaves y ++ []) ≡ y ∷ [] = made_tree y [] [] [] in
      cc

-- how many symbols a list of codes takes
abbrev symbols : List ℕ → ℕ
symbols [] = 0
symbols (zero ∷ cs) = symbols cs
symbols (suc zero ∷ cs) = suc (symbols cs)
symbols (suc (suc c) ∷ cs) = symbols cs

symbols_append : (cs ds : List ℕ) → symbols (cs ++ ds) ≡ symbols cs + symbols ds
symbols_append [] ds = omega arith
symbols_append (zero ∷ cs) ds = symbols_append cs ds
symbols_append (suc zero ∷ cs) ds = let h = symbols_append cs ds in omega arith
symbols_append (suc (suc c) ∷ cs) ds = symbols_append cs ds

abbrev units : ℕ → List (Unit {0})
units n = replicate n tt

units_two : (cs ds : List ℕ) (c : ℕ) → units (symbols cs) ++ units (symbols ds) ≡ units (symbols (cs ++ (ds ++ (suc (suc c) ∷ []))))
units_two cs ds c =
    let p = symbols_append cs (ds ++ (suc (suc c) ∷ [])) in
    let q = symbols_append ds (suc (suc c) ∷ []) in
    let e : symbols cs + symbols ds ≡ symbols (cs ++ (ds ++ (suc (suc c) ∷ []))) = omega arith in
    replicate-append-replicate (symbols cs) (symbols ds) tt ∙ ap units e

units_one : (cs : List ℕ) (c : ℕ) → units (symbols cs) ≡ units (symbols (cs ++ (suc (suc c) ∷ [])))
units_one cs c =
    let p = symbols_append cs (suc (suc c) ∷ []) in
    let e : symbols cs ≡ symbols (cs ++ (suc (suc c) ∷ [])) = omega arith in
    ap units e

module _ {A : Type 0} where
  shape_codes : (x : Tree A) → postfix (shape x) ≡ postfix x
  shape_codes empty = refl
  shape_codes (leaf a) = refl
  shape_codes (then l r) = rw (shape_codes l, shape_codes r)
  shape_codes (either l r) = rw (shape_codes l, shape_codes r)
  shape_codes (maybe e) = rw (shape_codes e)
  shape_codes (many e) = rw (shape_codes e)
  shape_codes (some e) = rw (shape_codes e)

  shape_leaves : (x : Tree A) → leaves (shape x) ≡ units (symbols (postfix x))
  shape_leaves empty = refl
  shape_leaves (leaf a) = refl
  shape_leaves (then l r) = rw (shape_leaves l, shape_leaves r) (units_two (postfix l) (postfix r) 0)
  shape_leaves (either l r) = rw (shape_leaves l, shape_leaves r) (units_two (postfix l) (postfix r) 1)
  shape_leaves (maybe e) = shape_leaves e ∙ units_one (postfix e) 2
  shape_leaves (many e) = shape_leaves e ∙ units_one (postfix e) 3
  shape_leaves (some e) = shape_leaves e ∙ units_one (postfix e) 4

  pub same_shape : (x y : Tree A) → postfix x ≡ postfix y → shape x ≡ shape y
  same_shape x y p =
      same_tree (shape x) (shape y) (shape_codes x ∙ p ∙ sym (shape_codes y))
      (shape_leaves x ∙ ap (λ (cs : List ℕ). units (symbols cs)) p ∙ sym (shape_leaves y))
