-- A text whose brackets never open a seventeenth level is written for a tree of at most sixteen levels. Assumes nothing.
use Rattle.std.proofs.Common.{◌≡◌, ℕ, suc, ◌+◌, ◌-◌, ◌<◌, ◌≤◌, max, Bool, true, false, cond, eqb, List, [], ◌∷◌, ◌++◌, length, get_or, take, sym, refl, ap, ◌∙◌, subst, append_assoc, arith}
use Rattle.std.proofs.lemmas.List.{take_more}
use Rattle.std.proofs.lemmas.Bool.{ne_eqb, eqb-true}
use Rattle.symbols.specs.Rule.{inner, IsName}
use Rattle.codes.specs.Tree.{Tree, empty, leaf, then, either, maybe, many, some}
use Rattle.text_writer.specs.declared.place.Place.{Place}
use Rattle.text_writer.specs.declared.place.Place.TheVariants.{Alone, Commas, Bars, Marked}
use Rattle.text_writer.specs.Levels.{passed, level}
use Rattle.text_writer.specs.Written.{grouped, then_opens, either_opens, mark_opens, with_sign, text}
use Rattle.text_writer.proofs.Nest.{deeper, nest, Named}
use Rattle.text_writer.proofs.Names.{inner_at}

-- from d open brackets on, none opens a seventeenth level
abbrev pub Low : ℕ → List ℕ → Type 0
Low d [] = Unit {0}
Low d (b ∷ s) = (b ≡ 40 → d < 16) × Low (passed d b) s

pub low_all : (d : ℕ) (t : List ℕ) → ((i : ℕ) → get_or t i 0 ≡ 40 → level d (take i t) < 16) → Low d t
low_all d [] f = tt
low_all d (b ∷ s) f = (f 0, low_all (passed d b) s (λ i. f (suc i)))

-- the text t, of n levels, leaves as many brackets open as it found
abbrev pub Passes : List ℕ → ℕ → Type 0
Passes t n = (d : ℕ) (s : List ℕ) → d ≤ 16 → Low d (t ++ s) → (d + n ≤ 16) × Low d s

same_level : (d b : ℕ) → inner b ≡ true → passed d b ≡ d
same_level d b h =
    ap (λ (v : Bool). cond v (d + 1) (cond (eqb b 41) (d - 1) d)) (ne_eqb b 40 (λ e. off 40 refl e))
    ∙ ap (λ (v : Bool). cond v (d - 1) d) (ne_eqb b 41 (λ e. off 41 refl e))
  where
    off : (c : ℕ) → inner c ≡ false → b ≡ c → ⊥
    off c f e = let z : ◌≡◌ {A = ℕ} 1 0 = ap (λ (v : Bool). cond v 0 1) (sym f ∙ sym (ap inner e) ∙ h) in omega arith

quiet : (n : List ℕ) → ((k : ℕ) → k < length n → inner (get_or n k 0) ≡ true) → (d : ℕ) (s : List ℕ) → Low d (n ++ s) → Low d s
quiet [] f d s h = h
quiet (b ∷ n) f d s h =
    quiet n (λ k z. f (suc k) (omega arith)) d s (subst (λ (e : ℕ). Low e (n ++ s)) (same_level d b (f 0 (omega arith))) h.1)

name_passes : (n : List ℕ) → IsName n → Passes n 0
name_passes n f d s h l = (omega arith, quiet n (inner_at n f) d s l)

pub group_passes : (o : Bool) (t : List ℕ) (n : ℕ) → Passes t n → Passes (grouped o t) (deeper o n)
group_passes false t n f d s h l = f d s h l
group_passes true t n f d s h l =
    let under : d < 16 = l.0 refl in
    let r = f (d + 1) (41 ∷ s) (omega arith) (subst (Low (d + 1)) (append_assoc t (41 ∷ []) s) l.1) in
    let back : d + 1 - 1 ≡ d = omega arith in
    (omega (arith, r.0), subst (λ (e : ℕ). Low e s) back r.1.1)

join_passes : (c : ℕ) → ((d : ℕ) → passed d c ≡ d) → (a b : List ℕ) (m n : ℕ) → Passes a m → Passes b n → Passes (a ++ (c ∷ b)) (max m n)
join_passes c q a b m n f g d s h l =
    let x = f d (c ∷ (b ++ s)) h (subst (Low d) (append_assoc a (c ∷ b) s) l) in
    let y = g d s h (subst (λ (e : ℕ). Low e (b ++ s)) (q d) x.1.1) in
    (omega (arith, x.0, y.0), y.1)

sign_passes : (c : ℕ) → ((d : ℕ) → passed d c ≡ d) → (p : Place) (a : List ℕ) (n : ℕ) → Passes a n → Passes (with_sign p c a) (deeper (mark_opens p) n)
sign_passes c q p a n f = group_passes (mark_opens p) (a ++ (c ∷ [])) n both
  where
    both : Passes (a ++ (c ∷ [])) n
    both d s h l =
        let x = f d (c ∷ s) h (subst (Low d) (append_assoc a (c ∷ []) s) l) in
        (x.0, subst (λ (e : ℕ). Low e s) (q d) x.1.1)

pub text_passes : (x : Tree (List ℕ)) → Named x → (p : Place) → Passes (text p x) (nest p x)
text_passes empty f p = absurd f
text_passes (leaf n) f p = name_passes n f
text_passes (then l r) f p =
    group_passes (then_opens p) (text Commas l ++ (44 ∷ text Alone r)) _
    (join_passes 44 (λ d. refl) (text Commas l) (text Alone r) _ _ (text_passes l f.0 Commas) (text_passes r f.1 Alone))
text_passes (either l r) f p =
    group_passes (either_opens p) (text Bars l ++ (124 ∷ text Alone r)) _
    (join_passes 124 (λ d. refl) (text Bars l) (text Alone r) _ _ (text_passes l f.0 Bars) (text_passes r f.1 Alone))
text_passes (maybe e) f p = sign_passes 63 (λ d. refl) p (text Marked e) (nest Marked e) (text_passes e f Marked)
text_passes (many e) f p = sign_passes 42 (λ d. refl) p (text Marked e) (nest Marked e) (text_passes e f Marked)
text_passes (some e) f p = sign_passes 43 (λ d. refl) p (text Marked e) (nest Marked e) (text_passes e f Marked)

-- one byte more
pub level_push : (s : List ℕ) (d b : ℕ) → level d (s ++ (b ∷ [])) ≡ passed (level d s) b
level_push [] d b = refl
level_push (x ∷ s) d b = level_push s (passed d x) b

pub level_more : (t : List ℕ) (i : ℕ) → i < length t → level 0 (take (i + 1) t) ≡ passed (level 0 (take i t)) (get_or t i 0)
level_more t i h = ap (level 0) (take_more t i 0 h) ∙ level_push (take i t) 0 (get_or t i 0)

pub passed_small : (d b : ℕ) → d ≤ 16 → (b ≡ 40 → d < 16) → passed d b ≤ 16
passed_small d b h k = by (eqb b 40) (eqb b 41) refl
  where
    by : (v w : Bool) → eqb b 40 ≡ v → cond v (d + 1) (cond w (d - 1) d) ≤ 16
    by true w e = omega (arith, k (eqb-true b 40 e))
    by false true e = omega arith
    by false false e = omega arith
