-- How many codes there are, by the names and the levels. Assumes nothing.
use Rattle.std.proofs.Common.{◌≡◌, ℕ, ◌+◌, ◌*◌, ◌≤◌, List, [], ◌∷◌, ◌++◌, length, sym, ap, ◌∙◌, add-mul, one-mul, mul-one, mul-add, arith, length-append}
use Rattle.grammar.specs.Grammar.{code, Marks, unmarked, with_mark, Sym, cp, choice, seq, rest, Is, cp_name, cp_choice, cp_seq, is_choice, is_seq, rest_done, rest_next, Listed, listed_done, listed_next, Mixed, text_alone, text_star, text_names, ContentSpec, empty, mixed, children_choice, children_seq, Model}

-- how many codes each production has at most, by its levels and names; there is a name
abbrev Bound : Sym → ℕ → List ℕ → List (List ℕ) → Type 0
Bound cp d w ns = (1 ≤ length ns) × (length w ≤ (d + 2) * length ns)
Bound choice d w ns = (1 ≤ length ns) × (length w + 1 ≤ (d + 2) * length ns)
Bound seq d w ns = (1 ≤ length ns) × (length w + 1 ≤ (d + 2) * length ns)
Bound (rest g) d w ns = length w ≤ (d + 2 + 1) * length ns

few : {t : List ℕ} {i j : ℕ} {m : List ℕ} → Marks t i j m → length m ≤ 1
few unmarked = omega arith
few (with_mark _) = omega arith

wide : (d a b x y : ℕ) → 1 ≤ a → x ≤ (d + 2) * a → y ≤ (d + 2 + 1) * b → x + y + 1 ≤ (d + 2 + 1) * (a + b)
wide d a b x y h p q =
    let whole : (d + 2 + 1) * (a + b) ≡ (d + 2 + 1) * a + (d + 2 + 1) * b = mul-add (d + 2 + 1) a b in
    let part : (d + 2 + 1) * a ≡ (d + 2) * a + 1 * a = add-mul (d + 2) 1 a in
    let unit : 1 * a ≡ a = one-mul a in
    omega arith

marked : (d : ℕ) (w m : List ℕ) (ns : List (List ℕ)) → length m ≤ 1 →
    (1 ≤ length ns) × (length w + 1 ≤ (d + 2) * length ns) → (1 ≤ length ns) × (length (w ++ m) ≤ (d + 2) * length ns)
marked d w m ns f h = let l = length-append w m in (h.0, omega (arith, h.1))

grouped : (d e : ℕ) (w v : List ℕ) (ns ms : List (List ℕ)) → d ≡ e + 1 →
    (1 ≤ length ns) × (length w ≤ (e + 2) * length ns) → length v ≤ (e + 2 + 1) * length ms →
    (1 ≤ length (ns ++ ms)) × (length (w ++ v) + 1 ≤ (d + 2) * length (ns ++ ms))
grouped d e w v ns ms de h q =
    let p = wide e (length ns) (length ms) (length w) (length v) h.0 h.1 q in
    let same : e + 2 + 1 ≡ d + 2 = omega arith in
    let s : (e + 2 + 1) * (length ns + length ms) ≡ (d + 2) * length (ns ++ ms) = ap (λ (z : ℕ). z * (length ns + length ms)) same ∙ ap (λ (z : ℕ). (d + 2) * z) (sym (length-append ns ms)) in
    let l = length-append w v in
    let k = length-append ns ms in
    (omega (arith, h.0), omega arith)

bound : {t : List ℕ} {n : ℕ} {s : Sym} {d i j : ℕ} {w : List ℕ} {ns : List (List ℕ)} → Is t n s d i j w ns →
    Bound s d w ns
bound {d = d} (cp_name {m = m} nm k) = let f = few k in let unit : (d + 2) * 1 ≡ d + 2 = mul-one (d + 2) in (omega arith, omega arith)
bound {d = d} (cp_choice {w = w} {m = m} {ns = ns} r k) = marked d w m ns (few k) (bound r)
bound {d = d} (cp_seq {w = w} {m = m} {ns = ns} r k) = marked d w m ns (few k) (bound r)
bound {d = d} (is_choice {e = e} {w = w} {v = v} {ns = ns} {ms = ms} br de a p u h q) = grouped d e w v ns ms de (bound p) (bound q)
bound {d = d} (is_seq {e = e} {w = w} {v = v} {ns = ns} {ms = ms} br de a p q) = grouped d e w v ns ms de (bound p) (bound q)
bound (rest_done a h) = omega arith
bound {d = d} (rest_next {g = g} {w = w} {v = v} {ns = ns} {ms = ms} a h u p q) =
    let x = bound p in
    let y = wide d (length ns) (length ms) (length w) (length v) x.0 x.1 (bound q) in
    let l = length-append (w ++ (code g ∷ [])) v in
    let k = length-append w (code g ∷ []) in
    let s : (d + 2 + 1) * (length ns + length ms) ≡ (d + 2 + 1) * length (ns ++ ms) = ap (λ (z : ℕ). (d + 2 + 1) * z) (sym (length-append ns ms)) in
    omega arith

listed_bound : {t : List ℕ} {n i j : ℕ} {v : List ℕ} {ms : List (List ℕ)} → Listed t n i j v ms →
    length v ≡ 2 * length ms
listed_bound (listed_done a h) = omega arith
listed_bound (listed_next a h u nm q) = omega (arith, listed_bound q)

mixed_bound : {t : List ℕ} {n i j : ℕ} {w : List ℕ} {ns : List (List ℕ)} → Mixed t n i j w ns →
    length w ≤ 2 * length ns + 1
mixed_bound (text_alone a b c d e) = omega arith
mixed_bound (text_star a b c d e f) = omega arith
mixed_bound (text_names {v = v} a b c d e f nm q h) = omega (arith, listed_bound q, length-append (1 ∷ v) (5 ∷ []))

spec_bound : {t : List ℕ} {n i j : ℕ} {w : List ℕ} {ns : List (List ℕ)} → ContentSpec t n 16 i j w ns → length ns ≤ 64 →
    length w ≤ 1280
spec_bound (empty e) h = omega arith
spec_bound (mixed m) h = omega (arith, mixed_bound m)
spec_bound (children_choice {w = w} {m = m} r k) h = omega (arith, (bound r).1, few k, length-append w m)
spec_bound (children_seq {w = w} {m = m} r k) h = omega (arith, (bound r).1, few k, length-append w m)

-- within the limits all codes have a cell
pub room : {t : List ℕ} {n : ℕ} {w : List ℕ} {ns : List (List ℕ)} → Model t n 16 w ns → length ns ≤ 64 → length w ≤ 1280
room m h = spec_bound m.spec h
