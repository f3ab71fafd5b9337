-- The rules of reading give one outcome, and at most 64 names. Assumes nothing.
use Rattle.std.proofs.Common.{◌≡◌, ℕ, ◌+◌, ◌≤◌, true, List, [], ◌∷◌, ◌++◌, length, sym, refl, ap, ◌∙◌, subst, arith, length-append}
use Rattle.symbols.specs.Rule.{inner}
use Rattle.tokens.specs.Bytes.{white}
use Rattle.tokens.specs.Tokens.{word, opens, closes, bar, tok, Longest, slice}
use Rattle.tokens.proofs.Runs.{not_both, one_end}
use Rattle.grammar.specs.declared.Chain.{Chain}
use Rattle.grammar.specs.Grammar.{code}
use Rattle.grammar.specs.Reads.{Cause, unexpected, long_name, too_deep, too_many, cannot, joins, Mark, none, one, Outcome, good, bad, after, Part, onward, Reads, p_name, p_long, p_many, p_deep, p_group, p_group_bad, p_none, b_bad, b_goes_on, o_done, o_bad, o_next, o_none, n_name, n_long, n_many, n_none, l_done, l_bad, l_next, l_none, Mixes, x_text, x_star, x_none, x_name_bad, x_list_bad, x_names, x_no_star, Opens, c_empty, c_word, c_none, c_mixed, c_children, c_bad, Whole, w_good, w_bad, w_left}
use Rattle.grammar.proofs.Edges.{clash, one_code}
use Rattle.grammar.proofs.Tokens.{joins_close}

-- the first token from i on is one token
same_tok : (t : List ℕ) {i b b' : ℕ} → Longest white t i b → Longest white t i b' → tok t b' ≡ tok t b
same_tok t a a' = ap (tok t) (one_end a a')

-- it is not a name and a bracket
not_open : (t : List ℕ) {i b b' : ℕ} → Longest white t i b → tok t b ≡ word → Longest white t i b' → tok t b' ≡ opens →
    ⊥
not_open t a s a' s' = clash (same_tok t a a' ∙ s) s'

-- it is not a closing bracket and a bar
not_bar : (t : List ℕ) {i b b' : ℕ} → Longest white t i b → tok t b ≡ closes → Longest white t i b' → tok t b' ≡ bar → ⊥
not_bar t a s a' s' = let z = same_tok t a a' in let y : ◌≡◌ {A = ℕ} 0 1 = cc in omega arith

-- it is not a closing bracket and the sign of a chain
not_sign : (t : List ℕ) (g : Chain) {i b b' : ℕ} → Longest white t i b → tok t b ≡ closes → Longest white t i b' →
    joins g (tok t b') ≡ true → ⊥
not_sign t g a s a' s' = not_both s' (ap (joins g) (same_tok t a a' ∙ s) ∙ joins_close g)

-- what is refused there
none_here : (t : List ℕ) {i b b' : ℕ} → Longest white t i b → Longest white t i b' →
    bad (cannot (tok t b')) b' ≡ bad (cannot (tok t b)) b
none_here t a a' = ap (λ (x : ℕ). bad (cannot (tok t x)) x) (one_end a a')

-- a name there ends at one place
same_name : (t : List ℕ) {i b b' k k' : ℕ} → Longest white t i b → Longest inner t (b + 1) k → Longest white t i b' →
    Longest inner t (b' + 1) k' → (b' ≡ b) × (k' ≡ k)
same_name t {k' = k'} a r a' r' = let e = one_end a a' in (e, one_end r (subst (λ (x : ℕ). Longest inner t (x + 1) k') e r'))

same_mark : (t : List ℕ) {i j j' : ℕ} {m m' : List ℕ} → Mark t i j m → Mark t i j' m' → (j' ≡ j) × (m' ≡ m)
same_mark t (none f) (none f') = (refl, refl)
same_mark t (none f) (one x') = absurd (f _ x')
same_mark t (one x) (none f') = absurd (f' _ x)
same_mark t (one x) (one x') = (refl, ap (λ (n : ℕ). n ∷ []) (one_code x' x))

-- nothing is both read and refused
not_good : {c : Cause} {k j : ℕ} {w : List ℕ} {ns : List (List ℕ)} → bad c k ≡ good j w ns → ⊥
not_good e = let z : ◌≡◌ {A = ℕ} 0 1 = cc in omega arith

not_bad : {c : Cause} {k j : ℕ} {w : List ℕ} {ns : List (List ℕ)} → good j w ns ≡ bad c k → ⊥
not_bad e = let z : ◌≡◌ {A = ℕ} 0 1 = cc in omega arith

-- what is read at equal places
moved : {t : List ℕ} {s s' : Part} {e e' i i' c c' : ℕ} {o : Outcome} → s' ≡ s → e' ≡ e → i' ≡ i → c' ≡ c →
    Reads t s' e' i' c' o → Reads t s e i c o
moved {t} {s} {s'} {e} {e'} {i} {i'} {c} {c'} {o} p q r u h = subst (λ (x : ℕ). Reads t s e i x o) u (subst (λ (x : ℕ). Reads t s e x c' o) r (subst (λ (x : ℕ). Reads t s x i' c' o) q (subst (λ (x : Part). Reads t x e' i' c' o) p h)))

one_outcome : {t : List ℕ} {s : Part} {e i c : ℕ} {o o' : Outcome} → Reads t s e i c o → Reads t s e i c o' → o' ≡ o
one_outcome {t} (p_name a s r h z mk) (p_name {j = j'} {m = m'} a' s' r' h' z' mk') =
    let n = same_name t a r a' r' in
    let x = same_mark t mk (subst (λ (y : ℕ). Mark t y j' m') n.1 mk') in
    let n0 = n.0 in
    let n1 = n.1 in
    let x0 = x.0 in
    let x1 = x.1 in
    cc
one_outcome {t} (p_name a s r h z mk) (p_long a' s' r' h') = absurd (let n = same_name t a r a' r' in omega (arith, n.0, n.1))
one_outcome {t} (p_name a s r h z mk) (p_many a' s' r' h' z') = absurd (omega arith)
one_outcome {t} (p_name a s r h z mk) (p_deep a' s' h') = absurd (not_open t a s a' s')
one_outcome {t} (p_name a s r h z mk) (p_group a' s' h' r' mk') = absurd (not_open t a s a' s')
one_outcome {t} (p_name a s r h z mk) (p_group_bad a' s' h' r') = absurd (not_open t a s a' s')
one_outcome {t} (p_name a s r h z mk) (p_none a' x' y') = absurd (x' (same_tok t a a' ∙ s))
one_outcome {t} (p_long a s r h) (p_name a' s' r' h' z' mk') = absurd (let n = same_name t a r a' r' in omega (arith, n.0, n.1))
one_outcome {t} (p_long a s r h) (p_long a' s' r' h') = ap (bad long_name) (one_end a a')
one_outcome {t} (p_long a s r h) (p_many a' s' r' h' z') = absurd (let n = same_name t a r a' r' in omega (arith, n.0, n.1))
one_outcome {t} (p_long a s r h) (p_deep a' s' h') = absurd (not_open t a s a' s')
one_outcome {t} (p_long a s r h) (p_group a' s' h' r' mk') = absurd (not_open t a s a' s')
one_outcome {t} (p_long a s r h) (p_group_bad a' s' h' r') = absurd (not_open t a s a' s')
one_outcome {t} (p_long a s r h) (p_none a' x' y') = absurd (x' (same_tok t a a' ∙ s))
one_outcome {t} (p_many a s r h z) (p_name a' s' r' h' z' mk') = absurd (omega arith)
one_outcome {t} (p_many a s r h z) (p_long a' s' r' h') = absurd (let n = same_name t a r a' r' in omega (arith, n.0, n.1))
one_outcome {t} (p_many a s r h z) (p_many a' s' r' h' z') = ap (bad too_many) (one_end a a')
one_outcome {t} (p_many a s r h z) (p_deep a' s' h') = absurd (not_open t a s a' s')
one_outcome {t} (p_many a s r h z) (p_group a' s' h' r' mk') = absurd (not_open t a s a' s')
one_outcome {t} (p_many a s r h z) (p_group_bad a' s' h' r') = absurd (not_open t a s a' s')
one_outcome {t} (p_many a s r h z) (p_none a' x' y') = absurd (x' (same_tok t a a' ∙ s))
one_outcome {t} (p_deep a s h) (p_name a' s' r' h' z' mk') = absurd (not_open t a' s' a s)
one_outcome {t} (p_deep a s h) (p_long a' s' r' h') = absurd (not_open t a' s' a s)
one_outcome {t} (p_deep a s h) (p_many a' s' r' h' z') = absurd (not_open t a' s' a s)
one_outcome {t} (p_deep a s h) (p_deep a' s' h') = ap (bad too_deep) (one_end a a')
one_outcome {t} (p_deep a s h) (p_group a' s' h' r' mk') = absurd (omega arith)
one_outcome {t} (p_deep a s h) (p_group_bad a' s' h' r') = absurd (omega arith)
one_outcome {t} (p_deep a s h) (p_none a' x' y') = absurd (y' (same_tok t a a' ∙ s))
one_outcome {t} (p_group a s h r mk) (p_name a' s' r' h' z' mk') = absurd (not_open t a' s' a s)
one_outcome {t} (p_group a s h r mk) (p_long a' s' r' h') = absurd (not_open t a' s' a s)
one_outcome {t} (p_group a s h r mk) (p_many a' s' r' h' z') = absurd (not_open t a' s' a s)
one_outcome {t} (p_group a s h r mk) (p_deep a' s' h') = absurd (omega arith)
one_outcome {t} (p_group {k = k} a s h r mk) (p_group {k = k'} {j = j'} {m = m'} a' s' h' r' mk') =
    let z = one_outcome r (moved refl (omega arith) (ap (λ (z : ℕ). z + 1) (one_end a a')) refl r') in
    let n : k' ≡ k = cc in
    let x = same_mark t mk (subst (λ (y : ℕ). Mark t y j' m') n mk') in
    let x0 = x.0 in
    let x1 = x.1 in
    cc
one_outcome {t} (p_group a s h r mk) (p_group_bad a' s' h' r') = absurd (not_good (one_outcome r (moved refl (omega arith) (ap (λ (z : ℕ). z + 1) (one_end a a')) refl r')))
one_outcome {t} (p_group a s h r mk) (p_none a' x' y') = absurd (y' (same_tok t a a' ∙ s))
one_outcome {t} (p_group_bad a s h r) (p_name a' s' r' h' z' mk') = absurd (not_open t a' s' a s)
one_outcome {t} (p_group_bad a s h r) (p_long a' s' r' h') = absurd (not_open t a' s' a s)
one_outcome {t} (p_group_bad a s h r) (p_many a' s' r' h' z') = absurd (not_open t a' s' a s)
one_outcome {t} (p_group_bad a s h r) (p_deep a' s' h') = absurd (omega arith)
one_outcome {t} (p_group_bad a s h r) (p_group a' s' h' r' mk') = absurd (not_bad (one_outcome r (moved refl (omega arith) (ap (λ (z : ℕ). z + 1) (one_end a a')) refl r')))
one_outcome {t} (p_group_bad a s h r) (p_group_bad a' s' h' r') = one_outcome r (moved refl (omega arith) (ap (λ (z : ℕ). z + 1) (one_end a a')) refl r')
one_outcome {t} (p_group_bad a s h r) (p_none a' x' y') = absurd (y' (same_tok t a a' ∙ s))
one_outcome {t} (p_none a x y) (p_name a' s' r' h' z' mk') = absurd (x (same_tok t a' a ∙ s'))
one_outcome {t} (p_none a x y) (p_long a' s' r' h') = absurd (x (same_tok t a' a ∙ s'))
one_outcome {t} (p_none a x y) (p_many a' s' r' h' z') = absurd (x (same_tok t a' a ∙ s'))
one_outcome {t} (p_none a x y) (p_deep a' s' h') = absurd (y (same_tok t a' a ∙ s'))
one_outcome {t} (p_none a x y) (p_group a' s' h' r' mk') = absurd (y (same_tok t a' a ∙ s'))
one_outcome {t} (p_none a x y) (p_group_bad a' s' h' r') = absurd (y (same_tok t a' a ∙ s'))
one_outcome {t} (p_none a x y) (p_none a' x' y') = none_here t a a'
one_outcome {t} (b_bad r) (b_bad r') = one_outcome r r'
one_outcome {t} (b_bad r) (b_goes_on r' u' h' x' q') = absurd (not_bad (one_outcome r r'))
one_outcome {t} (b_goes_on r u h x q) (b_bad r') = absurd (not_good (one_outcome r r'))
one_outcome {t} (b_goes_on {k = k} {l = l} {ns = ns} {g = g} r u h x q) (b_goes_on {k = k'} {l = l'} {ns = ns'} {g = g'} r' u' h' x' q') =
    let z = one_outcome r r' in
    let n : k' ≡ k = cc in
    let l0 : l' ≡ l = one_end u (subst (λ (y : ℕ). Longest white t y l') n u') in
    let g0 : g' ≡ g = cc in
    let c0 : length ns' ≡ length ns = cc in
    let o0 = one_outcome q (moved (ap onward g0) refl n (omega arith) q') in
    cc
one_outcome {t} (o_done a s) (o_done a' s') = ap (λ (x : ℕ). good (x + 1) [] []) (one_end a a')
one_outcome {t} (o_done {g = g} a s) (o_bad a' s' r') = absurd (not_sign t g a s a' s')
one_outcome {t} (o_done {g = g} a s) (o_next a' s' r' x' q') = absurd (not_sign t g a s a' s')
one_outcome {t} (o_done a s) (o_none a' x' y') = absurd (x' (same_tok t a a' ∙ s))
one_outcome {t} (o_bad {g = g} a s r) (o_done a' s') = absurd (not_sign t g a' s' a s)
one_outcome {t} (o_bad a s r) (o_bad a' s' r') = one_outcome r (moved refl refl (ap (λ (z : ℕ). z + 1) (one_end a a')) refl r')
one_outcome {t} (o_bad a s r) (o_next a' s' r' x' q') = absurd (not_bad (one_outcome r (moved refl refl (ap (λ (z : ℕ). z + 1) (one_end a a')) refl r')))
one_outcome {t} (o_bad {g = g} a s r) (o_none a' x' y') = absurd (not_both s (ap (joins g) (same_tok t a' a) ∙ y'))
one_outcome {t} (o_next {g = g} a s r x q) (o_done a' s') = absurd (not_sign t g a' s' a s)
one_outcome {t} (o_next a s r x q) (o_bad a' s' r') = absurd (not_good (one_outcome r (moved refl refl (ap (λ (z : ℕ). z + 1) (one_end a a')) refl r')))
one_outcome {t} (o_next {k = k} {ns = ns} a s r x q) (o_next {k = k'} {ns = ns'} a' s' r' x' q') =
    let z = one_outcome r (moved refl refl (ap (λ (z : ℕ). z + 1) (one_end a a')) refl r') in
    let n : k' ≡ k = cc in
    let c0 : length ns' ≡ length ns = cc in
    let o0 = one_outcome q (moved refl refl n (omega arith) q') in
    cc
one_outcome {t} (o_next {g = g} a s r x q) (o_none a' x' y') = absurd (not_both s (ap (joins g) (same_tok t a' a) ∙ y'))
one_outcome {t} (o_none a x y) (o_done a' s') = absurd (x (same_tok t a' a ∙ s'))
one_outcome {t} (o_none {g = g} a x y) (o_bad a' s' r') = absurd (not_both s' (ap (joins g) (same_tok t a a') ∙ y))
one_outcome {t} (o_none {g = g} a x y) (o_next a' s' r' x' q') = absurd (not_both s' (ap (joins g) (same_tok t a a') ∙ y))
one_outcome {t} (o_none a x y) (o_none a' x' y') = none_here t a a'
one_outcome {t} (n_name a s r h z) (n_name a' s' r' h' z') =
    let n = same_name t a r a' r' in
    let n0 = n.0 in
    let n1 = n.1 in
    cc
one_outcome {t} (n_name a s r h z) (n_long a' s' r' h') = absurd (let n = same_name t a r a' r' in omega (arith, n.0, n.1))
one_outcome {t} (n_name a s r h z) (n_many a' s' r' h' z') = absurd (omega arith)
one_outcome {t} (n_name a s r h z) (n_none a' x') = absurd (x' (same_tok t a a' ∙ s))
one_outcome {t} (n_long a s r h) (n_name a' s' r' h' z') = absurd (let n = same_name t a r a' r' in omega (arith, n.0, n.1))
one_outcome {t} (n_long a s r h) (n_long a' s' r' h') = ap (bad long_name) (one_end a a')
one_outcome {t} (n_long a s r h) (n_many a' s' r' h' z') = absurd (let n = same_name t a r a' r' in omega (arith, n.0, n.1))
one_outcome {t} (n_long a s r h) (n_none a' x') = absurd (x' (same_tok t a a' ∙ s))
one_outcome {t} (n_many a s r h z) (n_name a' s' r' h' z') = absurd (omega arith)
one_outcome {t} (n_many a s r h z) (n_long a' s' r' h') = absurd (let n = same_name t a r a' r' in omega (arith, n.0, n.1))
one_outcome {t} (n_many a s r h z) (n_many a' s' r' h' z') = ap (bad too_many) (one_end a a')
one_outcome {t} (n_many a s r h z) (n_none a' x') = absurd (x' (same_tok t a a' ∙ s))
one_outcome {t} (n_none a x) (n_name a' s' r' h' z') = absurd (x (same_tok t a' a ∙ s'))
one_outcome {t} (n_none a x) (n_long a' s' r' h') = absurd (x (same_tok t a' a ∙ s'))
one_outcome {t} (n_none a x) (n_many a' s' r' h' z') = absurd (x (same_tok t a' a ∙ s'))
one_outcome {t} (n_none a x) (n_none a' x') = none_here t a a'
one_outcome {t} (l_done a s) (l_done a' s') = ap (λ (x : ℕ). good (x + 1) [] []) (one_end a a')
one_outcome {t} (l_done a s) (l_bad a' s' r') = absurd (not_bar t a s a' s')
one_outcome {t} (l_done a s) (l_next a' s' r' x' q') = absurd (not_bar t a s a' s')
one_outcome {t} (l_done a s) (l_none a' x' y') = absurd (x' (same_tok t a a' ∙ s))
one_outcome {t} (l_bad a s r) (l_done a' s') = absurd (not_bar t a' s' a s)
one_outcome {t} (l_bad a s r) (l_bad a' s' r') = one_outcome r (moved refl refl (ap (λ (z : ℕ). z + 1) (one_end a a')) refl r')
one_outcome {t} (l_bad a s r) (l_next a' s' r' x' q') = absurd (not_bad (one_outcome r (moved refl refl (ap (λ (z : ℕ). z + 1) (one_end a a')) refl r')))
one_outcome {t} (l_bad a s r) (l_none a' x' y') = absurd (y' (same_tok t a a' ∙ s))
one_outcome {t} (l_next a s r x q) (l_done a' s') = absurd (not_bar t a' s' a s)
one_outcome {t} (l_next a s r x q) (l_bad a' s' r') = absurd (not_good (one_outcome r (moved refl refl (ap (λ (z : ℕ). z + 1) (one_end a a')) refl r')))
one_outcome {t} (l_next {k = k} {ns = ns} a s r x q) (l_next {k = k'} {ns = ns'} a' s' r' x' q') =
    let z = one_outcome r (moved refl refl (ap (λ (z : ℕ). z + 1) (one_end a a')) refl r') in
    let n : k' ≡ k = cc in
    let c0 : length ns' ≡ length ns = cc in
    let o0 = one_outcome q (moved refl refl n (omega arith) q') in
    cc
one_outcome {t} (l_next a s r x q) (l_none a' x' y') = absurd (y' (same_tok t a a' ∙ s))
one_outcome {t} (l_none a x y) (l_done a' s') = absurd (x (same_tok t a' a ∙ s'))
one_outcome {t} (l_none a x y) (l_bad a' s' r') = absurd (y (same_tok t a' a ∙ s'))
one_outcome {t} (l_none a x y) (l_next a' s' r' x' q') = absurd (y (same_tok t a' a ∙ s'))
one_outcome {t} (l_none a x y) (l_none a' x' y') = none_here t a a'

one_mix : {t : List ℕ} {i : ℕ} {o o' : Outcome} → Mixes t i o → Mixes t i o' → o' ≡ o
one_mix {t} (x_text a s f) (x_text a' s' f') = ap (λ (x : ℕ). good (x + 1) (0 ∷ []) []) (one_end a a')
one_mix {t} (x_text a s f) (x_star a' s' f') = absurd (f (ap (λ (x : ℕ). tok t (x + 1)) (one_end a' a) ∙ f'))
one_mix {t} (x_text a s f) (x_none a' x' y') = absurd (x' (same_tok t a a' ∙ s))
one_mix {t} (x_text a s f) (x_name_bad a' s' r') = absurd (not_bar t a s a' s')
one_mix {t} (x_text a s f) (x_list_bad a' s' r' x' q') = absurd (not_bar t a s a' s')
one_mix {t} (x_text a s f) (x_names a' s' r' x' q' f') = absurd (not_bar t a s a' s')
one_mix {t} (x_text a s f) (x_no_star a' s' r' x' q' f' u') = absurd (not_bar t a s a' s')
one_mix {t} (x_star a s f) (x_text a' s' f') = absurd (f' (ap (λ (x : ℕ). tok t (x + 1)) (one_end a a') ∙ f))
one_mix {t} (x_star a s f) (x_star a' s' f') = ap (λ (x : ℕ). good (x + 1 + 1) (0 ∷ []) []) (one_end a a')
one_mix {t} (x_star a s f) (x_none a' x' y') = absurd (x' (same_tok t a a' ∙ s))
one_mix {t} (x_star a s f) (x_name_bad a' s' r') = absurd (not_bar t a s a' s')
one_mix {t} (x_star a s f) (x_list_bad a' s' r' x' q') = absurd (not_bar t a s a' s')
one_mix {t} (x_star a s f) (x_names a' s' r' x' q' f') = absurd (not_bar t a s a' s')
one_mix {t} (x_star a s f) (x_no_star a' s' r' x' q' f' u') = absurd (not_bar t a s a' s')
one_mix {t} (x_none a x y) (x_text a' s' f') = absurd (x (same_tok t a' a ∙ s'))
one_mix {t} (x_none a x y) (x_star a' s' f') = absurd (x (same_tok t a' a ∙ s'))
one_mix {t} (x_none a x y) (x_none a' x' y') = none_here t a a'
one_mix {t} (x_none a x y) (x_name_bad a' s' r') = absurd (y (same_tok t a' a ∙ s'))
one_mix {t} (x_none a x y) (x_list_bad a' s' r' x' q') = absurd (y (same_tok t a' a ∙ s'))
one_mix {t} (x_none a x y) (x_names a' s' r' x' q' f') = absurd (y (same_tok t a' a ∙ s'))
one_mix {t} (x_none a x y) (x_no_star a' s' r' x' q' f' u') = absurd (y (same_tok t a' a ∙ s'))
one_mix {t} (x_name_bad a s r) (x_text a' s' f') = absurd (not_bar t a' s' a s)
one_mix {t} (x_name_bad a s r) (x_star a' s' f') = absurd (not_bar t a' s' a s)
one_mix {t} (x_name_bad a s r) (x_none a' x' y') = absurd (y' (same_tok t a a' ∙ s))
one_mix {t} (x_name_bad a s r) (x_name_bad a' s' r') = one_outcome r (moved refl refl (ap (λ (z : ℕ). z + 1) (one_end a a')) refl r')
one_mix {t} (x_name_bad a s r) (x_list_bad a' s' r' x' q') = absurd (not_bad (one_outcome r (moved refl refl (ap (λ (z : ℕ). z + 1) (one_end a a')) refl r')))
one_mix {t} (x_name_bad a s r) (x_names a' s' r' x' q' f') = absurd (not_bad (one_outcome r (moved refl refl (ap (λ (z : ℕ). z + 1) (one_end a a')) refl r')))
one_mix {t} (x_name_bad a s r) (x_no_star a' s' r' x' q' f' u') = absurd (not_bad (one_outcome r (moved refl refl (ap (λ (z : ℕ). z + 1) (one_end a a')) refl r')))
one_mix {t} (x_list_bad a s r x q) (x_text a' s' f') = absurd (not_bar t a' s' a s)
one_mix {t} (x_list_bad a s r x q) (x_star a' s' f') = absurd (not_bar t a' s' a s)
one_mix {t} (x_list_bad a s r x q) (x_none a' x' y') = absurd (y' (same_tok t a a' ∙ s))
one_mix {t} (x_list_bad a s r x q) (x_name_bad a' s' r') = absurd (not_good (one_outcome r (moved refl refl (ap (λ (z : ℕ). z + 1) (one_end a a')) refl r')))
one_mix {t} (x_list_bad {k = k} {ns = ns} a s r x q) (x_list_bad {k = k'} {ns = ns'} a' s' r' x' q') =
    let z = one_outcome r (moved refl refl (ap (λ (z : ℕ). z + 1) (one_end a a')) refl r') in
    let n : k' ≡ k = cc in
    let c0 : length ns' ≡ length ns = cc in
    let o0 = one_outcome q (moved refl refl n (omega arith) q') in
    o0
one_mix {t} (x_list_bad {k = k} {ns = ns} a s r x q) (x_names {k = k'} {ns = ns'} a' s' r' x' q' f') =
    let z = one_outcome r (moved refl refl (ap (λ (z : ℕ). z + 1) (one_end a a')) refl r') in
    let n : k' ≡ k = cc in
    let c0 : length ns' ≡ length ns = cc in
    let o0 = one_outcome q (moved refl refl n (omega arith) q') in
    absurd (not_bad o0)
one_mix {t} (x_list_bad {k = k} {ns = ns} a s r x q) (x_no_star {k = k'} {ns = ns'} a' s' r' x' q' f' u') =
    let z = one_outcome r (moved refl refl (ap (λ (z : ℕ). z + 1) (one_end a a')) refl r') in
    let n : k' ≡ k = cc in
    let c0 : length ns' ≡ length ns = cc in
    let o0 = one_outcome q (moved refl refl n (omega arith) q') in
    absurd (not_bad o0)
one_mix {t} (x_names a s r x q f) (x_text a' s' f') = absurd (not_bar t a' s' a s)
one_mix {t} (x_names a s r x q f) (x_star a' s' f') = absurd (not_bar t a' s' a s)
one_mix {t} (x_names a s r x q f) (x_none a' x' y') = absurd (y' (same_tok t a a' ∙ s))
one_mix {t} (x_names a s r x q f) (x_name_bad a' s' r') = absurd (not_good (one_outcome r (moved refl refl (ap (λ (z : ℕ). z + 1) (one_end a a')) refl r')))
one_mix {t} (x_names {k = k} {ns = ns} a s r x q f) (x_list_bad {k = k'} {ns = ns'} a' s' r' x' q') =
    let z = one_outcome r (moved refl refl (ap (λ (z : ℕ). z + 1) (one_end a a')) refl r') in
    let n : k' ≡ k = cc in
    let c0 : length ns' ≡ length ns = cc in
    let o0 = one_outcome q (moved refl refl n (omega arith) q') in
    absurd (not_good o0)
one_mix {t} (x_names {k = k} {ns = ns} a s r x q f) (x_names {k = k'} {ns = ns'} a' s' r' x' q' f') =
    let z = one_outcome r (moved refl refl (ap (λ (z : ℕ). z + 1) (one_end a a')) refl r') in
    let n : k' ≡ k = cc in
    let c0 : length ns' ≡ length ns = cc in
    let o0 = one_outcome q (moved refl refl n (omega arith) q') in
    cc
one_mix {t} (x_names {k = k} {j = j} {ns = ns} a s r x q f) (x_no_star {k = k'} {j = j'} {ns = ns'} a' s' r' x' q' f' u') =
    let z = one_outcome r (moved refl refl (ap (λ (z : ℕ). z + 1) (one_end a a')) refl r') in
    let n : k' ≡ k = cc in
    let c0 : length ns' ≡ length ns = cc in
    let o0 = one_outcome q (moved refl refl n (omega arith) q') in
    let j0 : j' ≡ j = cc in
    absurd (f' (ap (tok t) j0 ∙ f))
one_mix {t} (x_no_star a s r x q f u) (x_text a' s' f') = absurd (not_bar t a' s' a s)
one_mix {t} (x_no_star a s r x q f u) (x_star a' s' f') = absurd (not_bar t a' s' a s)
one_mix {t} (x_no_star a s r x q f u) (x_none a' x' y') = absurd (y' (same_tok t a a' ∙ s))
one_mix {t} (x_no_star a s r x q f u) (x_name_bad a' s' r') = absurd (not_good (one_outcome r (moved refl refl (ap (λ (z : ℕ). z + 1) (one_end a a')) refl r')))
one_mix {t} (x_no_star {k = k} {ns = ns} a s r x q f u) (x_list_bad {k = k'} {ns = ns'} a' s' r' x' q') =
    let z = one_outcome r (moved refl refl (ap (λ (z : ℕ). z + 1) (one_end a a')) refl r') in
    let n : k' ≡ k = cc in
    let c0 : length ns' ≡ length ns = cc in
    let o0 = one_outcome q (moved refl refl n (omega arith) q') in
    absurd (not_good o0)
one_mix {t} (x_no_star {k = k} {j = j} {ns = ns} a s r x q f u) (x_names {k = k'} {j = j'} {ns = ns'} a' s' r' x' q' f') =
    let z = one_outcome r (moved refl refl (ap (λ (z : ℕ). z + 1) (one_end a a')) refl r') in
    let n : k' ≡ k = cc in
    let c0 : length ns' ≡ length ns = cc in
    let o0 = one_outcome q (moved refl refl n (omega arith) q') in
    let j0 : j' ≡ j = cc in
    absurd (f (ap (tok t) (sym j0) ∙ f'))
one_mix {t} (x_no_star {k = k} {j = j} {ns = ns} a s r x q f u) (x_no_star {k = k'} {j = j'} {y = y'} {ns = ns'} a' s' r' x' q' f' u') =
    let z = one_outcome r (moved refl refl (ap (λ (z : ℕ). z + 1) (one_end a a')) refl r') in
    let n : k' ≡ k = cc in
    let c0 : length ns' ≡ length ns = cc in
    let o0 = one_outcome q (moved refl refl n (omega arith) q') in
    let j0 : j' ≡ j = cc in
    none_here t u (subst (λ (y : ℕ). Longest white t y y') j0 u')

-- the first token behind a bracket is one token
behind : (t : List ℕ) {i b b' l l' : ℕ} → Longest white t i b → Longest white t (b + 1) l → Longest white t i b' →
    Longest white t (b' + 1) l' → l' ≡ l
behind t {l' = l'} a u a' u' = one_end u (subst (λ (x : ℕ). Longest white t (x + 1) l') (one_end a a') u')

one_open : {t : List ℕ} {i : ℕ} {o o' : Outcome} → Opens t i o → Opens t i o' → o' ≡ o
one_open {t} (c_empty a s r h) (c_empty a' s' r' h') = ap (λ (x : ℕ). good x (0 ∷ []) []) (same_name t a r a' r').1
one_open {t} (c_empty {b = b} a s r h) (c_word {k = k'} a' s' r' h') = let n = same_name t a r a' r' in absurd (h' (ap (λ (x : ℕ). slice t x k') n.0 ∙ ap (slice t b) n.1 ∙ h))
one_open {t} (c_empty a s r h) (c_none a' x' y') = absurd (x' (same_tok t a a' ∙ s))
one_open {t} (c_empty a s r h) (c_mixed a' s' u' p' m') = absurd (not_open t a s a' s')
one_open {t} (c_empty a s r h) (c_children a' s' u' p' r' mk') = absurd (not_open t a s a' s')
one_open {t} (c_empty a s r h) (c_bad a' s' u' p' r') = absurd (not_open t a s a' s')
one_open {t} (c_word {k = k} a s r h) (c_empty {b = b'} a' s' r' h') = let n = same_name t a' r' a r in absurd (h (ap (λ (x : ℕ). slice t x k) n.0 ∙ ap (slice t b') n.1 ∙ h'))
one_open {t} (c_word a s r h) (c_word a' s' r' h') = ap (bad unexpected) (one_end a a')
one_open {t} (c_word a s r h) (c_none a' x' y') = absurd (x' (same_tok t a a' ∙ s))
one_open {t} (c_word a s r h) (c_mixed a' s' u' p' m') = absurd (not_open t a s a' s')
one_open {t} (c_word a s r h) (c_children a' s' u' p' r' mk') = absurd (not_open t a s a' s')
one_open {t} (c_word a s r h) (c_bad a' s' u' p' r') = absurd (not_open t a s a' s')
one_open {t} (c_none a x y) (c_empty a' s' r' h') = absurd (x (same_tok t a' a ∙ s'))
one_open {t} (c_none a x y) (c_word a' s' r' h') = absurd (x (same_tok t a' a ∙ s'))
one_open {t} (c_none a x y) (c_none a' x' y') = none_here t a a'
one_open {t} (c_none a x y) (c_mixed a' s' u' p' m') = absurd (y (same_tok t a' a ∙ s'))
one_open {t} (c_none a x y) (c_children a' s' u' p' r' mk') = absurd (y (same_tok t a' a ∙ s'))
one_open {t} (c_none a x y) (c_bad a' s' u' p' r') = absurd (y (same_tok t a' a ∙ s'))
one_open {t} (c_mixed a s u p m) (c_empty a' s' r' h') = absurd (not_open t a' s' a s)
one_open {t} (c_mixed a s u p m) (c_word a' s' r' h') = absurd (not_open t a' s' a s)
one_open {t} (c_mixed a s u p m) (c_none a' x' y') = absurd (y' (same_tok t a a' ∙ s))
one_open {t} (c_mixed a s u p m) (c_mixed {o = o'} a' s' u' p' m') = one_mix m (subst (λ (x : ℕ). Mixes t (x + 7) o') (behind t a u a' u') m')
one_open {t} (c_mixed a s u p m) (c_children a' s' u' p' r' mk') = absurd (p' (ap (tok t) (behind t a u a' u') ∙ p))
one_open {t} (c_mixed a s u p m) (c_bad a' s' u' p' r') = absurd (p' (ap (tok t) (behind t a u a' u') ∙ p))
one_open {t} (c_children a s u p r mk) (c_empty a' s' r' h') = absurd (not_open t a' s' a s)
one_open {t} (c_children a s u p r mk) (c_word a' s' r' h') = absurd (not_open t a' s' a s)
one_open {t} (c_children a s u p r mk) (c_none a' x' y') = absurd (y' (same_tok t a a' ∙ s))
one_open {t} (c_children a s u p r mk) (c_mixed a' s' u' p' m') = absurd (p (ap (tok t) (behind t a' u' a u) ∙ p'))
one_open {t} (c_children {k = k} a s u p r mk) (c_children {k = k'} {j = j'} {m = m'} a' s' u' p' r' mk') =
    let z = one_outcome r (moved refl refl (ap (λ (z : ℕ). z + 1) (one_end a a')) refl r') in
    let n : k' ≡ k = cc in
    let x = same_mark t mk (subst (λ (y : ℕ). Mark t y j' m') n mk') in
    let x0 = x.0 in
    let x1 = x.1 in
    cc
one_open {t} (c_children a s u p r mk) (c_bad a' s' u' p' r') = absurd (not_good (one_outcome r (moved refl refl (ap (λ (z : ℕ). z + 1) (one_end a a')) refl r')))
one_open {t} (c_bad a s u p r) (c_empty a' s' r' h') = absurd (not_open t a' s' a s)
one_open {t} (c_bad a s u p r) (c_word a' s' r' h') = absurd (not_open t a' s' a s)
one_open {t} (c_bad a s u p r) (c_none a' x' y') = absurd (y' (same_tok t a a' ∙ s))
one_open {t} (c_bad a s u p r) (c_mixed a' s' u' p' m') = absurd (p (ap (tok t) (behind t a' u' a u) ∙ p'))
one_open {t} (c_bad a s u p r) (c_children a' s' u' p' r' mk') = absurd (not_bad (one_outcome r (moved refl refl (ap (λ (z : ℕ). z + 1) (one_end a a')) refl r')))
one_open {t} (c_bad a s u p r) (c_bad a' s' u' p' r') = one_outcome r (moved refl refl (ap (λ (z : ℕ). z + 1) (one_end a a')) refl r')

-- the rules of reading give one outcome for a text
pub one_whole : {t : List ℕ} {o o' : Outcome} → Whole t o → Whole t o' → o' ≡ o
one_whole {t} (w_good r u e) (w_good r' u' e') = one_open r r'
one_whole {t} (w_good r u e) (w_bad r') = absurd (not_good (one_open r r'))
one_whole {t} (w_good {j = j} r u e) (w_left {j = j'} {l = l'} r' u' x') =
    let z = one_open r r' in
    let n : j' ≡ j = cc in
    absurd (x' (ap (tok t) (one_end u (subst (λ (y : ℕ). Longest white t y l') n u')) ∙ e))
one_whole {t} (w_bad r) (w_good r' u' e') = absurd (not_bad (one_open r r'))
one_whole {t} (w_bad r) (w_bad r') = one_open r r'
one_whole {t} (w_bad r) (w_left r' u' x') = absurd (not_bad (one_open r r'))
one_whole {t} (w_left {j = j} r u x) (w_good {j = j'} {l = l'} r' u' e') =
    let z = one_open r r' in
    let n : j' ≡ j = cc in
    absurd (x (ap (tok t) (one_end (subst (λ (y : ℕ). Longest white t y l') n u') u) ∙ e'))
one_whole {t} (w_left r u x) (w_bad r') = absurd (not_good (one_open r r'))
one_whole {t} (w_left {j = j} r u x) (w_left {j = j'} {l = l'} r' u' x') =
    let z = one_open r r' in
    let n : j' ≡ j = cc in
    none_here t u (subst (λ (y : ℕ). Longest white t y l') n u')

-- names are counted
abbrev Counted : ℕ → Outcome → Type 0
Counted c (good j w ns) = c ≤ 64 → c + length ns ≤ 64
Counted c (bad f k) = Unit {0}

counted_after : (c x : ℕ) (w : List ℕ) (ns : List (List ℕ)) (o : Outcome) → (c ≤ 64 → c + length ns ≤ 64) →
    x ≡ c + length ns → Counted x o → Counted c (after w ns o)
counted_after c x w ns (good j v ms) a e h = λ z. let k = a z in let l = h (omega arith) in omega (arith, length-append ns ms)
counted_after c x w ns (bad f k) a e h = tt

counted : {t : List ℕ} {s : Part} {e i c : ℕ} {o : Outcome} → Reads t s e i c o → Counted c o
counted (p_name a s r h z m) = λ y. omega arith
counted (p_long a s r h) = tt
counted (p_many a s r h z) = tt
counted (p_deep a s h) = tt
counted (p_group a s h r m) = counted r
counted (p_group_bad a s h r) = tt
counted (p_none a x y) = tt
counted (b_bad r) = tt
counted {c = c} (b_goes_on {x = x} {w = w} {ns = ns} {o = o} r u h e q) = counted_after c x w ns o (counted r) e (counted q)
counted (o_done a s) = λ y. omega arith
counted (o_bad a s r) = tt
counted {c = c} (o_next {g = g} {x = x} {w = w} {ns = ns} {o = o} a s r e q) = counted_after c x (w ++ (code g ∷ [])) ns o (counted r) e (counted q)
counted (o_none a x y) = tt
counted (n_name a s r h z) = λ y. omega arith
counted (n_long a s r h) = tt
counted (n_many a s r h z) = tt
counted (n_none a x) = tt
counted (l_done a s) = λ y. omega arith
counted (l_bad a s r) = tt
counted {c = c} (l_next {x = x} {w = w} {ns = ns} {o = o} a s r e q) = counted_after c x (w ++ (3 ∷ [])) ns o (counted r) e (counted q)
counted (l_none a x y) = tt

few_mix : {t : List ℕ} {i j : ℕ} {w : List ℕ} {ns : List (List ℕ)} → Mixes t i (good j w ns) → length ns ≤ 64
few_mix (x_text a s f) = omega arith
few_mix (x_star a s f) = omega arith
few_mix (x_names {ns = ns} {ms = ms} a s r e q f) = let h = counted r (omega arith) in let k = counted q (omega arith) in omega (arith, length-append ns ms)

few_open : {t : List ℕ} {i j : ℕ} {w : List ℕ} {ns : List (List ℕ)} → Opens t i (good j w ns) → length ns ≤ 64
few_open (c_empty a s r h) = omega arith
few_open (c_mixed a s u p x) = few_mix x
few_open (c_children a s u p r m) = omega (arith, counted r (omega arith))

pub few : {t : List ℕ} {j : ℕ} {w : List ℕ} {ns : List (List ℕ)} → Whole t (good j w ns) → length ns ≤ 64
few (w_good r u e) = few_open r
