-- The sets of a model are what begins, ends and follows in its marked words.
use Rattle.std.proofs.Common.{ℕ, List, [], ◌∷◌, ◌++◌, sym, refl, ap, subst, inl, inr, append_assoc, append-nil}
use Rattle.codes.specs.Tree.{empty, leaf, then, either, maybe, many, some}
use Rattle.language.specs.Words.{Expr, Marked, Begins, Ends, Follows, Occurs}
use Rattle.language.specs.Sets.{In, Nullable, First, Last, Follow, Run, Local}
use Rattle.language.proofs.Runs.{run_last, run_rest}
use Rattle.language.proofs.Sound.{sound}
use Rattle.language.proofs.Whole.{whole_empty, first_in, follow_in}

-- a word of e is one of `many e` and of `some e`, and so are two joined
one_many : (e : Expr) (w : List ℕ) → Marked e w → Marked (many e) w
one_many e w m = (w ∷ [], sym (append-nil w), (m, tt))

one_some : (e : Expr) (w : List ℕ) → Marked e w → Marked (some e) w
one_some e w m = (w, [], sym (append-nil w), m, tt)

two_many : (e : Expr) (u v : List ℕ) → Marked e u → Marked e v → Marked (many e) (u ++ v)
two_many e u v m n = (u ∷ (v ∷ []), ap (λ t. u ++ t) (sym (append-nil v)), (m, (n, tt)))

two_some : (e : Expr) (u v : List ℕ) → Marked e u → Marked e v → Marked (some e) (u ++ v)
two_some e u v m n = (u, v ∷ [], ap (λ t. u ++ t) (sym (append-nil v)), m, (n, tt))

-- each model has a word
pub has_word : (e : Expr) → (w : List ℕ) × Marked e w
has_word empty = ([], refl)
has_word (leaf k) = (k ∷ [], refl)
has_word (then l r) = let a = has_word l in let b = has_word r in (a.0 ++ b.0, (a.0, b.0, refl, a.1, b.1))
has_word (either l r) = let a = has_word l in (a.0, inl a.1)
has_word (maybe e) = ([], inl refl)
has_word (many e) = ([], ([], refl, tt))
has_word (some e) = let a = has_word e in (a.0, one_some e a.0 a.1)

-- each position stands in a word
pub in_occurs : (e : Expr) (x : ℕ) → In e x → Occurs e x
in_occurs empty x i = absurd i
in_occurs (leaf k) x i = ([], [], ap (λ t. t ∷ []) i)
in_occurs (then l r) x (inl i) =
    let o = in_occurs l x i in
    let b = has_word r in
    (o.0, o.1 ++ b.0, (o.0 ++ (x ∷ o.1), b.0, sym (append_assoc o.0 (x ∷ o.1) b.0), o.2, b.1))
in_occurs (then l r) x (inr i) =
    let o = in_occurs r x i in
    let a = has_word l in
    (a.0 ++ o.0, o.1, (a.0, o.0 ++ (x ∷ o.1), append_assoc a.0 o.0 (x ∷ o.1), a.1, o.2))
in_occurs (either l r) x (inl i) = let o = in_occurs l x i in (o.0, o.1, inl o.2)
in_occurs (either l r) x (inr i) = let o = in_occurs r x i in (o.0, o.1, inr o.2)
in_occurs (maybe e) x i = let o = in_occurs e x i in (o.0, o.1, inr o.2)
in_occurs (many e) x i = let o = in_occurs e x i in (o.0, o.1, one_many e (o.0 ++ (x ∷ o.1)) o.2)
in_occurs (some e) x i = let o = in_occurs e x i in (o.0, o.1, one_some e (o.0 ++ (x ∷ o.1)) o.2)

-- what is in the sets begins, ends and follows
pub first_begins : (e : Expr) (x : ℕ) → First e x → Begins e x
first_begins empty x h = absurd h
first_begins (leaf k) x h = ([], ap (λ t. t ∷ []) h)
first_begins (then l r) x (inl h) =
    let a = first_begins l x h in let b = has_word r in (a.0 ++ b.0, (x ∷ a.0, b.0, refl, a.1, b.1))
first_begins (then l r) x (inr h) =
    let b = first_begins r x h.1 in (b.0, ([], x ∷ b.0, refl, whole_empty l h.0, b.1))
first_begins (either l r) x (inl h) = let a = first_begins l x h in (a.0, inl a.1)
first_begins (either l r) x (inr h) = let a = first_begins r x h in (a.0, inr a.1)
first_begins (maybe e) x h = let a = first_begins e x h in (a.0, inr a.1)
first_begins (many e) x h = let a = first_begins e x h in (a.0, one_many e (x ∷ a.0) a.1)
first_begins (some e) x h = let a = first_begins e x h in (a.0, one_some e (x ∷ a.0) a.1)

pub last_ends : (e : Expr) (x : ℕ) → Last e x → Ends e x
last_ends empty x h = absurd h
last_ends (leaf k) x h = ([], ap (λ t. t ∷ []) h)
last_ends (then l r) x (inl h) =
    let a = has_word l in
    let b = last_ends r x h in
    (a.0 ++ b.0, (a.0, b.0 ++ (x ∷ []), append_assoc a.0 b.0 (x ∷ []), a.1, b.1))
last_ends (then l r) x (inr h) =
    let a = last_ends l x h.1 in
    (a.0, (a.0 ++ (x ∷ []), [], sym (append-nil (a.0 ++ (x ∷ []))), a.1, whole_empty r h.0))
last_ends (either l r) x (inl h) = let a = last_ends l x h in (a.0, inl a.1)
last_ends (either l r) x (inr h) = let a = last_ends r x h in (a.0, inr a.1)
last_ends (maybe e) x h = let a = last_ends e x h in (a.0, inr a.1)
last_ends (many e) x h = let a = last_ends e x h in (a.0, one_many e (a.0 ++ (x ∷ [])) a.1)
last_ends (some e) x h = let a = last_ends e x h in (a.0, one_some e (a.0 ++ (x ∷ [])) a.1)

pub follow_follows : (e : Expr) (x y : ℕ) → Follow e x y → Follows e x y
follow_follows empty x y h = absurd h
follow_follows (leaf k) x y h = absurd h
follow_follows (then l r) x y (inl (inl h)) =
    let o = follow_follows l x y h in
    let b = has_word r in (
      o.0,
      o.1 ++ b.0,
      (o.0 ++ (x ∷ (y ∷ o.1)), b.0, sym (append_assoc o.0 (x ∷ (y ∷ o.1)) b.0), o.2, b.1),
    )
follow_follows (then l r) x y (inl (inr h)) =
    let o = follow_follows r x y h in
    let a = has_word l in
    (a.0 ++ o.0, o.1, (a.0, o.0 ++ (x ∷ (y ∷ o.1)), append_assoc a.0 o.0 (x ∷ (y ∷ o.1)), a.1, o.2))
follow_follows (then l r) x y (inr h) =
    let a = last_ends l x h.0 in
    let b = first_begins r y h.1 in
    (a.0, b.0, (a.0 ++ (x ∷ []), y ∷ b.0, sym (append_assoc a.0 (x ∷ []) (y ∷ b.0)), a.1, b.1))
follow_follows (either l r) x y (inl h) = let o = follow_follows l x y h in (o.0, o.1, inl o.2)
follow_follows (either l r) x y (inr h) = let o = follow_follows r x y h in (o.0, o.1, inr o.2)
follow_follows (maybe e) x y h = let o = follow_follows e x y h in (o.0, o.1, inr o.2)
follow_follows (many e) x y (inl h) =
    let o = follow_follows e x y h in (o.0, o.1, one_many e (o.0 ++ (x ∷ (y ∷ o.1))) o.2)
follow_follows (many e) x y (inr h) =
    let a = last_ends e x h.0 in
    let b = first_begins e y h.1 in (
      a.0,
      b.0,
      subst (Marked (many e)) (append_assoc a.0 (x ∷ []) (y ∷ b.0)) (two_many e (a.0 ++ (x ∷ [])) (y ∷ b.0) a.1 b.1),
    )
follow_follows (some e) x y (inl h) =
    let o = follow_follows e x y h in (o.0, o.1, one_some e (o.0 ++ (x ∷ (y ∷ o.1))) o.2)
follow_follows (some e) x y (inr h) =
    let a = last_ends e x h.0 in
    let b = first_begins e y h.1 in (
      a.0,
      b.0,
      subst (Marked (some e)) (append_assoc a.0 (x ∷ []) (y ∷ b.0)) (two_some e (a.0 ++ (x ∷ [])) (y ∷ b.0) a.1 b.1),
    )

-- what a word that the sets allow goes through
pub local_last : (e : Expr) (x : ℕ) (u : List ℕ) → Local e (u ++ (x ∷ [])) → Last e x
local_last e x [] h = h.1
local_last e x (z ∷ u) h = run_last (Follow e) (Last e) x u z h.1

pub local_rest : (e : Expr) (x : ℕ) (v u : List ℕ) → Local e (u ++ (x ∷ v)) → Run (Follow e) (Last e) x v
local_rest e x v [] h = h.1
local_rest e x v (z ∷ u) h = run_rest (Follow e) (Last e) x v u z h.1

-- what begins, ends and follows is in the sets
pub begins_first : (e : Expr) (x : ℕ) → Begins e x → First e x
begins_first e x b = (sound e (x ∷ b.0) b.1).0

pub ends_last : (e : Expr) (x : ℕ) → Ends e x → Last e x
ends_last e x b = local_last e x b.0 (sound e (b.0 ++ (x ∷ [])) b.1)

pub follows_follow : (e : Expr) (x y : ℕ) → Follows e x y → Follow e x y
follows_follow e x y b = (local_rest e x (y ∷ b.1) b.0 (sound e (b.0 ++ (x ∷ (y ∷ b.1))) b.2)).0

pub empty_nullable : (e : Expr) → Marked e [] → Nullable e
empty_nullable e m = sound e [] m

in_run : (e : Expr) (x : ℕ) (v u : List ℕ) (z : ℕ) → Run (Follow e) (Last e) z (u ++ (x ∷ v)) → In e x
in_run e x v [] z h = (follow_in e z x h.0).1
in_run e x v (y ∷ u) z h = in_run e x v u y h.1

-- what stands in a word is a position
pub occurs_in : (e : Expr) (x : ℕ) (u v : List ℕ) → Local e (u ++ (x ∷ v)) → In e x
occurs_in e x [] v h = first_in e x h.0
occurs_in e x (z ∷ u) v h = in_run e x v u z h.1
