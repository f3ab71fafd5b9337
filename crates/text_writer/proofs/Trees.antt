-- The tree of names that codes and names build. Assumes nothing.
use Rattle.std.proofs.Common.{◌≡◌, ℕ, ◌+◌, ◌-◌, ◌<◌, ◌≤◌, List, [], ◌∷◌, ◌++◌, map, length, get_or, sym, refl, ap, ◌∙◌, subst, inl, inr, append_assoc, arith, length-append}
use Rattle.std.specs.List.{All}
use Rattle.std.proofs.lemmas.List.{map-append, get_or_at, take_at, drop_at}
use Rattle.std.proofs.lemmas.List.Elements.{All-take, All-drop, All-head, All-from_get_or}
use Rattle.symbols.specs.Rule.{IsName}
use Rattle.codes.specs.Tree.{Tree, empty, leaf, then, either, maybe, many, some, postfix, leaves}
use Rattle.codes.specs.Checked.{above, CodesOf}
use Rattle.grammar.specs.Trees.{Solid, Plain}
use Rattle.text_writer.specs.Writes.{NoneEmpty}
use Rattle.text_writer.proofs.Nest.{Named}
use Rattle.text_writer.proofs.Wrapped.{some_code}

-- the same tree with other things at its symbols
abbrev pub relabel : {A B : Type 0} → (A → B) → Tree A → Tree B
relabel f empty = empty
relabel f (leaf a) = leaf (f a)
relabel f (then l r) = then (relabel f l) (relabel f r)
relabel f (either l r) = either (relabel f l) (relabel f r)
relabel f (maybe e) = maybe (relabel f e)
relabel f (many e) = many (relabel f e)
relabel f (some e) = some (relabel f e)

relabel_codes : {A B : Type 0} (f : A → B) (x : Tree A) → postfix (relabel f x) ≡ postfix x
relabel_codes f empty = refl
relabel_codes f (leaf a) = refl
relabel_codes f (then l r) = ap (λ (w : List ℕ). w ++ (postfix (relabel f r) ++ (2 ∷ []))) (relabel_codes f l) ∙ ap (λ (w : List ℕ). postfix l ++ (w ++ (2 ∷ []))) (relabel_codes f r)
relabel_codes f (either l r) = ap (λ (w : List ℕ). w ++ (postfix (relabel f r) ++ (3 ∷ []))) (relabel_codes f l) ∙ ap (λ (w : List ℕ). postfix l ++ (w ++ (3 ∷ []))) (relabel_codes f r)
relabel_codes f (maybe e) = ap (λ (w : List ℕ). w ++ (4 ∷ [])) (relabel_codes f e)
relabel_codes f (many e) = ap (λ (w : List ℕ). w ++ (5 ∷ [])) (relabel_codes f e)
relabel_codes f (some e) = ap (λ (w : List ℕ). w ++ (6 ∷ [])) (relabel_codes f e)

relabel_leaves : {A B : Type 0} (f : A → B) (x : Tree A) → leaves (relabel f x) ≡ map f (leaves x)
relabel_leaves f empty = refl
relabel_leaves f (leaf a) = refl
relabel_leaves {A} {B} f (then l r) = ap (λ (w : List B). w ++ leaves (relabel f r)) (relabel_leaves f l) ∙ ap (λ (w : List B). map f (leaves l) ++ w) (relabel_leaves f r) ∙ sym (map-append f (leaves l) (leaves r))
relabel_leaves {A} {B} f (either l r) = ap (λ (w : List B). w ++ leaves (relabel f r)) (relabel_leaves f l) ∙ ap (λ (w : List B). map f (leaves l) ++ w) (relabel_leaves f r) ∙ sym (map-append f (leaves l) (leaves r))
relabel_leaves f (maybe e) = relabel_leaves f e
relabel_leaves f (many e) = relabel_leaves f e
relabel_leaves f (some e) = relabel_leaves f e

-- what stands at position k, counted from 1
abbrev at_place : {A : Type 0} → A → List A → ℕ → A
at_place d xs k = get_or xs (k - 1) d

places_all : {A : Type 0} (d : A) (front xs : List A) (a : ℕ) → length front ≡ a → map (at_place d (front ++ xs)) (above a (length xs)) ≡ xs
places_all d front [] a e = refl
places_all {A} d front (x ∷ xs) a e =
    let here : get_or (front ++ (x ∷ xs)) (a + 1 - 1) d ≡ x = get_or_at front x xs d (a + 1 - 1) (omega arith) in
    let grown : length (front ++ (x ∷ [])) ≡ a + 1 = omega (arith, length-append front (x ∷ [])) in
    let more : map (at_place d ((front ++ (x ∷ [])) ++ xs)) (above (a + 1) (length xs)) ≡ xs = places_all d (front ++ (x ∷ [])) xs (a + 1) grown in
    let moved : map (at_place d (front ++ (x ∷ xs))) (above (a + 1) (length xs)) ≡ xs = subst (λ (l : List A). map (at_place d l) (above (a + 1) (length xs)) ≡ xs) (append_assoc front (x ∷ []) xs) more in
    ap (λ (y : A). y ∷ map (at_place d (front ++ (x ∷ xs))) (above (a + 1) (length xs))) here ∙ ap (λ (l : List A). x ∷ l) moved

-- the tree of codes over as many symbols as there are names, with the names at its symbols
pub tree_of : (cs : List ℕ) (ns : List (List ℕ)) (e : Tree ℕ) → CodesOf (length ns) cs e → (x : Tree (List ℕ)) × (cs ≡ postfix x) × (ns ≡ leaves x)
tree_of cs ns e c =
    let f : ℕ → List ℕ = at_place [] ns in (
      relabel f e,
      c.codes ∙ sym (relabel_codes f e),
      sym (relabel_leaves f e ∙ ap (map f) c.places ∙ places_all [] [] ns 0 refl),
    )

all_left : {A : Type 0} (P : A → Type 0) (xs ys : List A) → All P (xs ++ ys) → All P xs
all_left P xs ys h = rw (take_at xs ys (length xs) refl) at (All-take P (length xs) (xs ++ ys) h)

all_right : {A : Type 0} (P : A → Type 0) (xs ys : List A) → All P (xs ++ ys) → All P ys
all_right P xs ys h = rw (drop_at xs ys (length xs) refl) at (All-drop P (length xs) (xs ++ ys) h)

abbrev pub Nonzero : ℕ → Type 0
Nonzero c = c ≡ 0 → ⊥

solid_from : (x : Tree (List ℕ)) → All Nonzero (postfix x) → Solid x
solid_from empty h = All-head Nonzero 0 [] h refl
solid_from (leaf n) h = tt
solid_from (then l r) h = (solid_from l (all_left Nonzero (postfix l) (postfix r ++ (2 ∷ [])) h), solid_from r (all_left Nonzero (postfix r) (2 ∷ []) (all_right Nonzero (postfix l) (postfix r ++ (2 ∷ [])) h)))
solid_from (either l r) h = (solid_from l (all_left Nonzero (postfix l) (postfix r ++ (3 ∷ [])) h), solid_from r (all_left Nonzero (postfix r) (3 ∷ []) (all_right Nonzero (postfix l) (postfix r ++ (3 ∷ [])) h)))
solid_from (maybe e) h = solid_from e (all_left Nonzero (postfix e) (4 ∷ []) h)
solid_from (many e) h = solid_from e (all_left Nonzero (postfix e) (5 ∷ []) h)
solid_from (some e) h = solid_from e (all_left Nonzero (postfix e) (6 ∷ []) h)

one_code : (x : Tree (List ℕ)) → length (postfix x) ≤ 1 → Plain x
one_code empty h = inl refl
one_code (leaf n) h = inr tt
one_code (then l r) h = absurd (omega (arith, some_code l, length-append (postfix l) (postfix r ++ (2 ∷ [])), length-append (postfix r) (2 ∷ [])))
one_code (either l r) h = absurd (omega (arith, some_code l, length-append (postfix l) (postfix r ++ (3 ∷ [])), length-append (postfix r) (3 ∷ [])))
one_code (maybe e) h = absurd (omega (arith, some_code e, length-append (postfix e) (4 ∷ [])))
one_code (many e) h = absurd (omega (arith, some_code e, length-append (postfix e) (5 ∷ [])))
one_code (some e) h = absurd (omega (arith, some_code e, length-append (postfix e) (6 ∷ [])))

pub plain_from : (x : Tree (List ℕ)) → NoneEmpty (postfix x) → Plain x
plain_from x (inl h) = one_code x h
plain_from x (inr h) = inr (solid_from x (All-from_get_or Nonzero (postfix x) 0 h))

named_from : (x : Tree (List ℕ)) → Solid x → All IsName (leaves x) → Named x
named_from empty s h = s
named_from (leaf n) s h = All-head IsName n [] h
named_from (then l r) s h = (named_from l s.0 (all_left IsName (leaves l) (leaves r) h), named_from r s.1 (all_right IsName (leaves l) (leaves r) h))
named_from (either l r) s h = (named_from l s.0 (all_left IsName (leaves l) (leaves r) h), named_from r s.1 (all_right IsName (leaves l) (leaves r) h))
named_from (maybe e) s h = named_from e s h
named_from (many e) s h = named_from e s h
named_from (some e) s h = named_from e s h

pub solid_named : (x : Tree (List ℕ)) → Solid x → ((k : ℕ) → k < length (leaves x) → IsName (get_or (leaves x) k [])) → Named x
solid_named x s h = named_from x s (All-from_get_or IsName (leaves x) [] h)
