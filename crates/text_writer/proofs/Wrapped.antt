-- Which texts are bracketed as a whole, and how long a text is. Assumes nothing.
use Rattle.std.proofs.Common.{◌≡◌, ℕ, ◌+◌, ◌*◌, ◌<◌, ◌≤◌, Bool, true, false, leb, List, [], ◌∷◌, ◌++◌, length, sym, ap, subst, append-nil, arith, length-append}
use Rattle.std.proofs.lemmas.Bool.{lt-leb}
use Rattle.symbols.specs.Rule.{IsName}
use Rattle.codes.specs.Tree.{Tree, empty, leaf, then, either, maybe, many, some, postfix, leaves}
use Rattle.text_writer.specs.declared.place.Place.{Place}
use Rattle.text_writer.specs.declared.place.Place.TheVariants.{Alone, Commas, Bars, Marked}
use Rattle.text_writer.specs.Levels.{Shallow}
use Rattle.text_writer.specs.Written.{grouped, then_opens, either_opens, mark_opens, with_sign, text, bracketed, written}
use Rattle.text_writer.proofs.Nest.{deeper, nest, Named}
use Rattle.text_writer.proofs.Round.{bare_text, name_first}
use Rattle.text_writer.proofs.Low.{low_all, group_passes, text_passes}

pub some_code : {A : Type 0} (x : Tree A) → 1 ≤ length (postfix x)
some_code empty = omega arith
some_code (leaf a) = omega arith
some_code (then l r) = omega (arith, some_code l, length-append (postfix l) (postfix r ++ (2 ∷ [])))
some_code (either l r) = omega (arith, some_code l, length-append (postfix l) (postfix r ++ (3 ∷ [])))
some_code (maybe e) = omega (arith, some_code e, length-append (postfix e) (4 ∷ []))
some_code (many e) = omega (arith, some_code e, length-append (postfix e) (5 ∷ []))
some_code (some e) = omega (arith, some_code e, length-append (postfix e) (6 ∷ []))

-- two parts and their code are at least three codes
three : {A : Type 0} (l r : Tree A) (c : ℕ) → 2 < length (postfix l ++ (postfix r ++ (c ∷ [])))
three l r c = omega (arith, some_code l, some_code r, length-append (postfix l) (postfix r ++ (c ∷ [])), length-append (postfix r) (c ∷ []))

-- the text is bracketed as a whole exactly where there are at most two codes
abbrev Wraps : Tree (List ℕ) → List ℕ → Type 0
Wraps x s = written x ≡ grouped (leb (length (postfix x)) 2) s

wraps_not : (w s : List ℕ) → 2 < length w → s ≡ grouped (leb (length w) 2) s
wraps_not w s h = sym (ap (λ (v : Bool). grouped v s) (lt-leb (length w) 2 h))

-- a part under the mark b, whose code is c
marked_wraps : (b c : ℕ) (a : Tree (List ℕ)) → Named a → bracketed (text Marked a ++ (b ∷ [])) ≡ grouped (leb (length (postfix a ++ (c ∷ []))) 2) (text Marked a ++ (b ∷ []))
marked_wraps b c empty f = absurd f
marked_wraps b c (leaf n) f = bare_text (n ++ (b ∷ [])) (name_first n (b ∷ []) f)
marked_wraps b c (then l r) f =
    wraps_not (postfix (then l r) ++ (c ∷ [])) (text Marked (then l r) ++ (b ∷ [])) (omega (arith, three l r 2, length-append (postfix (then l r)) (c ∷ [])))
marked_wraps b c (either l r) f =
    wraps_not (postfix (either l r) ++ (c ∷ [])) (text Marked (either l r) ++ (b ∷ [])) (omega (arith, three l r 3, length-append (postfix (either l r)) (c ∷ [])))
marked_wraps b c (maybe e) f =
    wraps_not (postfix (maybe e) ++ (c ∷ [])) (text Marked (maybe e) ++ (b ∷ [])) (omega (arith, some_code e, length-append (postfix e) (4 ∷ []), length-append (postfix (maybe e)) (c ∷ [])))
marked_wraps b c (many e) f =
    wraps_not (postfix (many e) ++ (c ∷ [])) (text Marked (many e) ++ (b ∷ [])) (omega (arith, some_code e, length-append (postfix e) (5 ∷ []), length-append (postfix (many e)) (c ∷ [])))
marked_wraps b c (some e) f =
    wraps_not (postfix (some e) ++ (c ∷ [])) (text Marked (some e) ++ (b ∷ [])) (omega (arith, some_code e, length-append (postfix e) (6 ∷ []), length-append (postfix (some e)) (c ∷ [])))

pub wrapped : (x : Tree (List ℕ)) → Named x → Wraps x (text Alone x)
wrapped empty f = absurd f
wrapped (leaf n) f = bare_text n (subst (λ (s : List ℕ). Rattle.symbols.specs.Rule.start (lib.ListN.get_or s 0 0) ≡ true) (append-nil n) (name_first n [] f))
wrapped (then l r) f = wraps_not (postfix (then l r)) (text Alone (then l r)) (three l r 2)
wrapped (either l r) f = wraps_not (postfix (either l r)) (text Alone (either l r)) (three l r 3)
wrapped (maybe e) f = marked_wraps 63 4 e f
wrapped (many e) f = marked_wraps 42 5 e f
wrapped (some e) f = marked_wraps 43 6 e f

pub shallow_nest : (x : Tree (List ℕ)) → Named x → Shallow (written x) → nest Alone x ≤ 16
shallow_nest x f h =
    let o = leb (length (postfix x)) 2 in
    let s = subst Shallow (wrapped x f) h in
    let r = group_passes o (text Alone x) (nest Alone x) (text_passes x f Alone) 0 [] (omega arith)
    (low_all 0 (grouped o (text Alone x) ++ []) (subst Shallow (sym (append-nil (grouped o (text Alone x)))) s)) in
    below o (nest Alone x) r.0
  where
    below : (o : Bool) (n : ℕ) → 0 + deeper o n ≤ 16 → n ≤ 16
    below true n h = omega arith
    below false n h = omega arith

-- a name has at most 32 bytes; any other code adds at most three
pub grouped_length : (o : Bool) (s : List ℕ) → length (grouped o s) ≤ length s + 2
grouped_length true s = omega (arith, length-append s (41 ∷ []))
grouped_length false s = omega arith

sign_length : (p : Place) (b c n : ℕ) (a : Tree (List ℕ)) → length (text Marked a) ≤ n + 3 * length (postfix a) → length (with_sign p b (text Marked a)) ≤ n + 3 * length (postfix a ++ (c ∷ []))
sign_length p b c n a h =
    omega (arith, grouped_length (mark_opens p) (text Marked a ++ (b ∷ [])), length-append (text Marked a) (b ∷ []), length-append (postfix a) (c ∷ []))

pair_length : (o : Bool) (c b : ℕ) (s u w v : List ℕ) (m n : ℕ) → length s ≤ 32 * m + 3 * length w → length u ≤ 32 * n + 3 * length v → length (grouped o (s ++ (b ∷ u))) ≤ 32 * (m + n) + 3 * length (w ++ (v ++ (c ∷ [])))
pair_length o c b s u w v m n h k =
    omega (arith, grouped_length o (s ++ (b ∷ u)), length-append s (b ∷ u), length-append w (v ++ (c ∷ [])), length-append v (c ∷ []))

pub text_length : (x : Tree (List ℕ)) → Named x → (p : Place) → length (text p x) ≤ 32 * length (leaves x) + 3 * length (postfix x)
text_length empty f p = absurd f
text_length (leaf n) f p = omega (arith, f.1)
text_length (then l r) f p =
    let h = pair_length (then_opens p) 2 44 (text Commas l) (text Alone r) (postfix l) (postfix r) (length (leaves l)) (length (leaves r)) (text_length l f.0 Commas) (text_length r f.1 Alone) in
    omega (arith, length-append (leaves l) (leaves r))
text_length (either l r) f p =
    let h = pair_length (either_opens p) 3 124 (text Bars l) (text Alone r) (postfix l) (postfix r) (length (leaves l)) (length (leaves r)) (text_length l f.0 Bars) (text_length r f.1 Alone) in
    omega (arith, length-append (leaves l) (leaves r))
text_length (maybe e) f p = sign_length p 63 4 (32 * length (leaves e)) e (text_length e f Marked)
text_length (many e) f p = sign_length p 42 5 (32 * length (leaves e)) e (text_length e f Marked)
text_length (some e) f p = sign_length p 43 6 (32 * length (leaves e)) e (text_length e f Marked)
