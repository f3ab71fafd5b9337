-- Each word that the sets of a model with distinct positions allow is marked.
use Rattle.std.proofs.Common.{◌≡◌, ℕ, List, [], ◌∷◌, ◌++◌, refl, ap, inl, inr}
use Rattle.codes.specs.Tree.{empty, leaf, then, either, maybe, many, some}
use Rattle.language.specs.Words.{Expr, Marked, Each, joined}
use Rattle.language.proofs.Runs.{run_stays}
use Rattle.language.specs.Sets.{In, Distinct, Nullable, First, Last, Follow, Run, Local}

-- what the sets hold are positions
pub first_in : (e : Expr) (x : ℕ) → First e x → In e x
first_in empty x h = h
first_in (leaf k) x h = h
first_in (then l r) x (inl h) = inl (first_in l x h)
first_in (then l r) x (inr h) = inr (first_in r x h.1)
first_in (either l r) x (inl h) = inl (first_in l x h)
first_in (either l r) x (inr h) = inr (first_in r x h)
first_in (maybe e) x h = first_in e x h
first_in (many e) x h = first_in e x h
first_in (some e) x h = first_in e x h

pub last_in : (e : Expr) (x : ℕ) → Last e x → In e x
last_in empty x h = h
last_in (leaf k) x h = h
last_in (then l r) x (inl h) = inr (last_in r x h)
last_in (then l r) x (inr h) = inl (last_in l x h.1)
last_in (either l r) x (inl h) = inl (last_in l x h)
last_in (either l r) x (inr h) = inr (last_in r x h)
last_in (maybe e) x h = last_in e x h
last_in (many e) x h = last_in e x h
last_in (some e) x h = last_in e x h

pub follow_in : (e : Expr) (x y : ℕ) → Follow e x y → In e x × In e y
follow_in empty x y h = absurd h
follow_in (leaf k) x y h = absurd h
follow_in (then l r) x y (inl (inl h)) = let p = follow_in l x y h in (inl p.0, inl p.1)
follow_in (then l r) x y (inl (inr h)) = let p = follow_in r x y h in (inr p.0, inr p.1)
follow_in (then l r) x y (inr h) = (inl (last_in l x h.0), inr (first_in r y h.1))
follow_in (either l r) x y (inl h) = let p = follow_in l x y h in (inl p.0, inl p.1)
follow_in (either l r) x y (inr h) = let p = follow_in r x y h in (inr p.0, inr p.1)
follow_in (maybe e) x y h = follow_in e x y h
follow_in (many e) x y (inl h) = follow_in e x y h
follow_in (many e) x y (inr h) = (last_in e x h.0, first_in e y h.1)
follow_in (some e) x y (inl h) = follow_in e x y h
follow_in (some e) x y (inr h) = (last_in e x h.0, first_in e y h.1)

-- the empty word
pub whole_empty : (e : Expr) → Nullable e → Marked e []
whole_empty empty h = refl
whole_empty (leaf k) h = absurd h
whole_empty (then l r) h = ([], [], refl, whole_empty l h.0, whole_empty r h.1)
whole_empty (either l r) (inl h) = inl (whole_empty l h)
whole_empty (either l r) (inr h) = inr (whole_empty r h)
whole_empty (maybe e) h = inl refl
whole_empty (many e) h = ([], refl, tt)
whole_empty (some e) h = ([], [], refl, whole_empty e h, tt)

-- a run through `either` from a position of one side stays there
left_stays : (l r : Expr) → ((x : ℕ) → In l x → In r x → ⊥)
    → (x : ℕ) (w : List ℕ) → In l x → Run (Follow (either l r)) (Last (either l r)) x w → Run (Follow l) (Last l) x w
left_stays l r apart =
    run_stays (Follow (either l r)) (Follow l) (Last (either l r)) (Last l) (In l)
    (λ x y i f. elim f [ inl p ↦ (p, (follow_in l x y p).1) | inr p ↦ absurd (apart x i (follow_in r x y p).0) ])
    (λ x i f. elim f [ inl p ↦ p | inr p ↦ absurd (apart x i (last_in r x p)) ])

right_stays : (l r : Expr) → ((x : ℕ) → In l x → In r x → ⊥)
    → (x : ℕ) (w : List ℕ) → In r x → Run (Follow (either l r)) (Last (either l r)) x w → Run (Follow r) (Last r) x w
right_stays l r apart =
    run_stays (Follow (either l r)) (Follow r) (Last (either l r)) (Last r) (In r)
    (λ x y i f. elim f [ inl p ↦ absurd (apart x (follow_in l x y p).0 i) | inr p ↦ (p, (follow_in r x y p).1) ])
    (λ x i f. elim f [ inl p ↦ absurd (apart x (last_in l x p) i) | inr p ↦ p ])

-- a run through `then` from a position of the right side stays there
then_stays : (l r : Expr) → ((x : ℕ) → In l x → In r x → ⊥)
    → (x : ℕ) (w : List ℕ) → In r x → Run (Follow (then l r)) (Last (then l r)) x w → Run (Follow r) (Last r) x w
then_stays l r apart =
    run_stays (Follow (then l r)) (Follow r) (Last (then l r)) (Last r) (In r)
    (λ x y i f. elim f [
      | inl (inl p) ↦ absurd (apart x (follow_in l x y p).0 i)
      | inl (inr p) ↦ (p, (follow_in r x y p).1)
      | inr p ↦ absurd (apart x (last_in l x p.0) i)
    ])
    (λ x i f. elim f [ inl p ↦ p | inr p ↦ absurd (apart x (last_in l x p.1) i) ])

-- one from the left side goes through the left side, and then through a word of the right
abbrev Cut : Expr → Expr → ℕ → List ℕ → Type 0
Cut l r x w = (u : List ℕ) × (v : List ℕ) × (w ≡ u ++ v) × Run (Follow l) (Last l) x u × Local r v

cut_at_end : (l r : Expr) → ((x : ℕ) → In l x → In r x → ⊥) → (x : ℕ) → In l x → Last (then l r) x → Cut l r x []
cut_at_end l r apart x i (inl h) = absurd (apart x i (last_in r x h))
cut_at_end l r apart x i (inr h) = ([], [], refl, h.1, h.0)

cut_at : (l r : Expr) → ((x : ℕ) → In l x → In r x → ⊥) → (x y : ℕ) (w : List ℕ) → In l x
    → Follow (then l r) x y → Run (Follow (then l r)) (Last (then l r)) y w → (In l y → Cut l r y w) → Cut l r x (y ∷ w)
cut_at l r apart x y w i (inl (inl f)) h more =
    let c = more (follow_in l x y f).1 in (y ∷ c.0, c.1, ap (λ t. y ∷ t) c.2, (f, c.3), c.4)
cut_at l r apart x y w i (inl (inr f)) h more = absurd (apart x i (follow_in r x y f).0)
cut_at l r apart x y w i (inr f) h more =
    ([], y ∷ w, refl, f.0, (f.1, then_stays l r apart y w (first_in r y f.1) h))

then_cut : (l r : Expr) → ((x : ℕ) → In l x → In r x → ⊥)
    → (x : ℕ) (w : List ℕ) → In l x → Run (Follow (then l r)) (Last (then l r)) x w → Cut l r x w
then_cut l r apart x [] i h = cut_at_end l r apart x i h
then_cut l r apart x (y ∷ w) i h = cut_at l r apart x y w i h.0 h.1 (λ j. then_cut l r apart y w j h.1)

-- a run through `many` goes through e, and then through words of e
abbrev Pieces : Expr → ℕ → List ℕ → Type 0
Pieces e x w = (u : List ℕ) × (ps : List (List ℕ)) × (w ≡ u ++ joined ps) × Run (Follow e) (Last e) x u × Each (Local e) ps

piece_at : (e : Expr) (x y : ℕ) (w : List ℕ) → Follow (many e) x y → Pieces e y w → Pieces e x (y ∷ w)
piece_at e x y w (inl f) c = (y ∷ c.0, c.1, ap (λ t. y ∷ t) c.2, (f, c.3), c.4)
piece_at e x y w (inr f) c = ([], (y ∷ c.0) ∷ c.1, ap (λ t. y ∷ t) c.2, f.0, ((f.1, c.3), c.4))

many_pieces : (e : Expr) (x : ℕ) (w : List ℕ) → Run (Follow (many e)) (Last (many e)) x w → Pieces e x w
many_pieces e x [] h = ([], [], refl, h, tt)
many_pieces e x (y ∷ w) h = piece_at e x y w h.0 (many_pieces e y w h.1)

each_whole : (P Q : List ℕ → Type 0) → ((w : List ℕ) → P w → Q w) → (ps : List (List ℕ)) → Each P ps → Each Q ps
each_whole P Q f [] h = tt
each_whole P Q f (p ∷ ps) h = (f p h.0, each_whole P Q f ps h.1)

leaf_whole : (k x : ℕ) (w : List ℕ) → x ≡ k → Run (Follow (leaf k)) (Last (leaf k)) x w → x ∷ w ≡ k ∷ []
leaf_whole k x [] e h = ap (λ t. t ∷ []) e
leaf_whole k x (y ∷ w) e h = absurd h.0

mark_then : (l r : Expr) → ((x : ℕ) → In l x → In r x → ⊥) → ((w : List ℕ) → Local l w → Marked l w) → ((w : List ℕ) → Local r w → Marked r w)
    → (x : ℕ) (w : List ℕ) → First (then l r) x → Run (Follow (then l r)) (Last (then l r)) x w → Marked (then l r) (x ∷ w)
mark_then l r apart f g x w (inl p) h =
    let c = then_cut l r apart x w (first_in l x p) h in
    (x ∷ c.0, c.1, ap (λ t. x ∷ t) c.2, f (x ∷ c.0) (p, c.3), g c.1 c.4)
mark_then l r apart f g x w (inr p) h =
    ([], x ∷ w, refl, whole_empty l p.0, g (x ∷ w) (p.1, then_stays l r apart x w (first_in r x p.1) h))

mark_either : (l r : Expr) → ((x : ℕ) → In l x → In r x → ⊥) → ((w : List ℕ) → Local l w → Marked l w) → ((w : List ℕ) → Local r w → Marked r w)
    → (x : ℕ) (w : List ℕ) → First (either l r) x → Run (Follow (either l r)) (Last (either l r)) x w → Marked (either l r) (x ∷ w)
mark_either l r apart f g x w (inl p) h = inl (f (x ∷ w) (p, left_stays l r apart x w (first_in l x p) h))
mark_either l r apart f g x w (inr p) h = inr (g (x ∷ w) (p, right_stays l r apart x w (first_in r x p) h))

mark_some : (e : Expr) → ((w : List ℕ) → Local e w → Marked e w)
    → (x : ℕ) (w : List ℕ) → First e x → Run (Follow (some e)) (Last (some e)) x w → Marked (some e) (x ∷ w)
mark_some e f x w p h =
    let c = many_pieces e x w h in
    (x ∷ c.0, c.1, ap (λ t. x ∷ t) c.2, f (x ∷ c.0) (p, c.3), each_whole (Local e) (Marked e) f c.1 c.4)

mark_many : (e : Expr) (w : List ℕ) → Marked (some e) w → Marked (many e) w
mark_many e w m = (m.0 ∷ m.1, m.2, (m.3, m.4))

pub whole : (e : Expr) → Distinct e → (w : List ℕ) → Local e w → Marked e w
whole empty d [] h = whole_empty empty h
whole (leaf k) d [] h = absurd h
whole (then l r) d [] h = whole_empty (then l r) h
whole (either l r) d [] h = whole_empty (either l r) h
whole (maybe e) d [] h = whole_empty (maybe e) h
whole (many e) d [] h = whole_empty (many e) h
whole (some e) d [] h = whole_empty (some e) h
whole empty d (x ∷ w) h = absurd h.0
whole (leaf k) d (x ∷ w) h = leaf_whole k x w h.0 h.1
whole (then l r) d (x ∷ w) h = mark_then l r d.2 (whole l d.0) (whole r d.1) x w h.0 h.1
whole (either l r) d (x ∷ w) h = mark_either l r d.2 (whole l d.0) (whole r d.1) x w h.0 h.1
whole (maybe e) d (x ∷ w) h = inr (whole e d (x ∷ w) h)
whole (many e) d (x ∷ w) h = mark_many e (x ∷ w) (mark_some e (whole e d) x w h.0 h.1)
whole (some e) d (x ∷ w) h = mark_some e (whole e d) x w h.0 h.1
