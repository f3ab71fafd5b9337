-- The stack of parts and the rows, under one code.
use Rattle.std.proofs.Common.{◌≡◌, ℕ, ◌+◌, ◌/◌, ◌%◌, ◌^◌, ◌<◌, ◌≤◌, ◌⊎◌, List, [], ◌∷◌, ◌++◌, length, get_or, set, take, Decides, sym, refl, ap, ◌∙◌, subst, inl, inr, arith, length-append, length-take}
use Rattle.std.proofs.lemmas.List.{same_from_push, take_more, take_more_set}
use Rattle.std.proofs.lemmas.Bool.Decides.{Decides-eqb, Decides-like}
use Rattle.models.specs.declared.tables.Sets.{Sets}
use Rattle.codes.specs.Tree.{then, either, some}
use Rattle.language.specs.Words.{Expr}
use Rattle.language.specs.Sets.{First, Last, Follow}
use Rattle.models.specs.Bitsets.{Bit, bit, ShowsSet}
use Rattle.models.specs.Machine.{Shows, no_sets, Stack, FollowAny, Rows, Linked}
use Rattle.models.proofs.Bitsets.{with_set}

-- a part is put on top
pub pushed : (ps qs : List Sets) (p : Sets) (e : Expr) (s : List Expr) → qs ≡ ps ++ p ∷ [] → Shows p e → Stack ps s → Stack qs (e ∷ s)
pushed ps qs p e s q h k = (ps, p, q, h, k)

-- the top part is taken
pub popped : (ps qs : List Sets) (p : Sets) (e : Expr) (s : List Expr) → ps ≡ qs ++ p ∷ [] → Stack ps (e ∷ s) → Shows p e × Stack qs s
popped ps qs p e s q k =
    let both = same_from_push qs k.0 p k.1 (sym q ∙ k.2) in
    (subst (λ r. Shows r e) (sym both.1) k.3, subst (λ l. Stack l s) (sym both.0) k.4)

-- the last of the first d parts
pub top_of : (ps : List Sets) (k d : ℕ) → k + 1 ≡ d → d ≤ length ps → take d ps ≡ take k ps ++ get_or ps k no_sets ∷ []
top_of ps k d e h = ap (λ n. take n ps) (sym e) ∙ take_more ps k no_sets (omega arith)

-- the same once that part is changed
pub top_set : (ps : List Sets) (k d : ℕ) (q : Sets) → k + 1 ≡ d → d ≤ length ps → take d (set ps k q) ≡ take k ps ++ q ∷ []
top_set ps k d q e h = ap (λ n. take n (set ps k q)) (sym e) ∙ take_more_set ps k q (omega arith)

-- a stack of one part
stack_none : (s : List Expr) → Stack [] s → s ≡ []
stack_none [] k = refl
stack_none (e ∷ s) k = absurd (omega (arith, length-append k.0 (k.1 ∷ []), ap length k.2))

pub one_part : (ps : List Sets) (s : List Expr) → 1 ≤ length ps → Stack (take 1 ps) s → (e : Expr) × (s ≡ e ∷ []) × Shows (get_or ps 0 no_sets) e
one_part ps [] h k = absurd (omega (arith, length-take 1 ps, ap length k))
one_part ps (e ∷ s) h k =
    let one = popped (take 1 ps) [] (get_or ps 0 no_sets) e s (top_of ps 0 1 refl h) k in
    (e, ap (λ t. e ∷ t) (stack_none s one.1), one.0)

-- two sets that are one
pub set_like : (n : ℕ) (P Q : ℕ → Type 0) → ((x : ℕ) → P x → Q x) → ((x : ℕ) → Q x → P x) → ShowsSet n P → ShowsSet n Q
set_like n P Q f g h k = ((λ b. f (k + 1) ((h k).0 b)), (λ q. (h k).1 (g (k + 1) q)))

pub bit_decides : (n k : ℕ) → Decides (bit n k) (Bit n k)
bit_decides n k = Decides-eqb (n / 2 ^ k % 2) 1

-- rows that are linked
pub rows_linked : (rs ts : List ℕ) (last first : ℕ) (s : List Expr) (P Q : ℕ → Type 0) → Linked last first rs ts
    → ShowsSet last P → ShowsSet first Q → Rows rs s
    → (x : ℕ) → x < length ts → ShowsSet (get_or ts x 0) (λ y. FollowAny s (x + 1) y ⊎ (P (x + 1) × Q y))
rows_linked rs ts last first s P Q l p q r x lt =
    let h : x < length rs = omega (arith, l.0) in
    subst (λ n. ShowsSet n (λ y. FollowAny s (x + 1) y ⊎ (P (x + 1) × Q y))) (sym (l.1 x h))
    (with_set (bit last x) (get_or rs x 0) first (P (x + 1)) (FollowAny s (x + 1)) Q
    (Decides-like (bit last x) (p x).0 (p x).1 (bit_decides last x)) (r x h) q)

then_in : (l r : Expr) (s : List Expr) (x y : ℕ) → FollowAny (r ∷ (l ∷ s)) x y ⊎ (Last l x × First r y) → FollowAny (then l r ∷ s) x y
then_in l r s x y (inl (inl h)) = inl (inl (inr h))
then_in l r s x y (inl (inr (inl h))) = inl (inl (inl h))
then_in l r s x y (inl (inr (inr h))) = inr h
then_in l r s x y (inr h) = inl (inr h)

then_out : (l r : Expr) (s : List Expr) (x y : ℕ) → FollowAny (then l r ∷ s) x y → FollowAny (r ∷ (l ∷ s)) x y ⊎ (Last l x × First r y)
then_out l r s x y (inl (inl (inl h))) = inl (inr (inl h))
then_out l r s x y (inl (inl (inr h))) = inl (inl h)
then_out l r s x y (inl (inr h)) = inr h
then_out l r s x y (inr h) = inl (inr (inr h))

pub rows_then : (rs ts : List ℕ) (p q : Sets) (l r : Expr) (s : List Expr) → Linked p.last q.first rs ts
    → Shows p l → Shows q r → Rows rs (r ∷ (l ∷ s)) → Rows ts (then l r ∷ s)
rows_then rs ts p q l r s k a b h x lt =
    set_like (get_or ts x 0) (λ y. FollowAny (r ∷ (l ∷ s)) (x + 1) y ⊎ (Last l (x + 1) × First r y)) (FollowAny (then l r ∷ s) (x + 1))
    (then_in l r s (x + 1)) (then_out l r s (x + 1))
    (rows_linked rs ts p.last q.first (r ∷ (l ∷ s)) (Last l) (First r) k a.end b.begin h x lt)

either_in : (l r : Expr) (s : List Expr) (x y : ℕ) → FollowAny (r ∷ (l ∷ s)) x y → FollowAny (either l r ∷ s) x y
either_in l r s x y (inl h) = inl (inr h)
either_in l r s x y (inr (inl h)) = inl (inl h)
either_in l r s x y (inr (inr h)) = inr h

either_out : (l r : Expr) (s : List Expr) (x y : ℕ) → FollowAny (either l r ∷ s) x y → FollowAny (r ∷ (l ∷ s)) x y
either_out l r s x y (inl (inl h)) = inr (inl h)
either_out l r s x y (inl (inr h)) = inl h
either_out l r s x y (inr h) = inr (inr h)

pub rows_either : (rs : List ℕ) (l r : Expr) (s : List Expr) → Rows rs (r ∷ (l ∷ s)) → Rows rs (either l r ∷ s)
rows_either rs l r s h x lt =
    set_like (get_or rs x 0) (FollowAny (r ∷ (l ∷ s)) (x + 1)) (FollowAny (either l r ∷ s) (x + 1))
    (either_in l r s (x + 1)) (either_out l r s (x + 1)) (h x lt)

some_in : (e : Expr) (s : List Expr) (x y : ℕ) → FollowAny (e ∷ s) x y ⊎ (Last e x × First e y) → FollowAny (some e ∷ s) x y
some_in e s x y (inl (inl h)) = inl (inl h)
some_in e s x y (inl (inr h)) = inr h
some_in e s x y (inr h) = inl (inr h)

some_out : (e : Expr) (s : List Expr) (x y : ℕ) → FollowAny (some e ∷ s) x y → FollowAny (e ∷ s) x y ⊎ (Last e x × First e y)
some_out e s x y (inl (inl h)) = inl (inl h)
some_out e s x y (inl (inr h)) = inr h
some_out e s x y (inr h) = inl (inr h)

pub rows_some : (rs ts : List ℕ) (p : Sets) (e : Expr) (s : List Expr) → Linked p.last p.first rs ts
    → Shows p e → Rows rs (e ∷ s) → Rows ts (some e ∷ s)
rows_some rs ts p e s k a h x lt =
    set_like (get_or ts x 0) (λ y. FollowAny (e ∷ s) (x + 1) y ⊎ (Last e (x + 1) × First e y)) (FollowAny (some e ∷ s) (x + 1))
    (some_in e s (x + 1)) (some_out e s (x + 1))
    (rows_linked rs ts p.last p.first (e ∷ s) (Last e) (First e) k a.end a.begin h x lt)

-- the empty model and a position add no followers
pub rows_none : (rs : List ℕ) (e : Expr) (s : List Expr) → ((x y : ℕ) → Follow e x y → ⊥) → Rows rs s → Rows rs (e ∷ s)
rows_none rs e s no_one h x lt =
    set_like (get_or rs x 0) (FollowAny s (x + 1)) (FollowAny (e ∷ s) (x + 1)) (λ y f. inr f)
    (λ y f. elim f [ inl g ↦ absurd (no_one (x + 1) y g) | inr g ↦ g ]) (h x lt)
