-- What stands in a text by the productions is read, or is past a limit. Assumes nothing.
use Rattle.std.proofs.Common.{◌≡◌, ℕ, ◌+◌, ◌<◌, ◌≤◌, Bool, false, List, [], ◌∷◌, ◌++◌, length, get_or, codes, sym, refl, ap, ◌∙◌, subst, ⊎_elim, arith, length-append}
use Rattle.std.proofs.lemmas.List.{get_or_past}
use Rattle.symbols.specs.Rule.{inner}
use Rattle.tokens.specs.Bytes.{white}
use Rattle.tokens.specs.Tokens.{Tok, closes, bar, tok, While, Longest, slice}
use Rattle.tokens.proofs.Runs.{not_both, same_run, tok_past}
use Rattle.tokens.proofs.Signs.{tok_word, tok_open, tok_close, tok_bar, tok_comma, tok_star}
use Rattle.grammar.specs.declared.Chain.{Chain}
use Rattle.grammar.specs.declared.Chain.TheVariants.{Choice, Seq}
use Rattle.grammar.specs.Grammar.{sign, code, Name, Marks, unmarked, with_mark, Sym, cp, choice, seq, rest, Is, cp_name, cp_choice, cp_seq, is_choice, is_seq, rest_done, rest_next, Listed, listed_done, listed_next, Mixed, text_alone, text_star, text_names, ContentSpec, empty, mixed, children_choice, children_seq, Model}
use Rattle.grammar.specs.Reads.{Cause, strange_byte, unexpected, long_name, too_deep, too_many, joins, chain_of_tok, star_5, Mark, none, one, Outcome, good, bad, after, particle, body, onward, named, listed, Reads, p_name, p_long, p_many, p_deep, p_group, p_group_bad, p_none, b_bad, b_goes_on, o_done, o_bad, o_next, o_none, n_name, n_long, n_many, n_none, l_done, l_bad, l_next, l_none, Mixes, x_text, x_star, x_none, x_name_bad, x_list_bad, x_names, x_no_star, Opens, c_empty, c_word, c_none, c_mixed, c_children, c_bad, Whole, w_good, w_bad, w_left}
use Rattle.grammar.proofs.Tokens.{tok_joins, joins_close, mark_tok, hash_byte}
use Rattle.grammar.specs.Refusals.{Refutes, RefusedAt}
use Rattle.grammar.proofs.First.{begun}
use Rattle.grammar.proofs.Local.{still_bad}
use Rattle.grammar.proofs.Edges.{clash, Closed, start_black, sign_black, at_end, after_white, one_code, marks_outside, head_rest, after_cp, Head, head_choice, head_seq, listed_outside, empty_run, empty_start, pcdata_tok, no_pcdata}

same : {p : ℕ → Bool} {t : List ℕ} {i j k : ℕ} → While p t i j → Longest p t i k → p (get_or t j 0) ≡ false → k ≡ j
same r q a = same_run r q.run a q.ends

same_mark : (t : List ℕ) {k j j' : ℕ} {m m' : List ℕ} → Marks t k j m → Mark t k j' m' → Closed t j →
    (j' ≡ j) × (m' ≡ m)
same_mark t unmarked (none _) f = (refl, refl)
same_mark t unmarked (one k) f = absurd (f.no_mark _ k)
same_mark t {k} (with_mark h) (none f) _ = absurd (f _ (mark_tok t k h))
same_mark t {k} (with_mark h) (one x) _ = (refl, ap (λ (n : ℕ). n ∷ []) (one_code x (mark_tok t k h)))

-- the limit that a refusal names is passed by a derivation with names of at most n bytes, d levels and m names, where e
-- levels were left
abbrev pub Past : ℕ → ℕ → ℕ → ℕ → Cause → Type 0
Past n d e m strange_byte = ⊥
Past n d e m unexpected = ⊥
Past n d e m long_name = 32 < n
Past n d e m too_deep = e < d
Past n d e m too_many = 64 < m

past_more : (n d e m m' : ℕ) (f : Cause) → m ≤ m' → Past n d e m f → Past n d e m' f
past_more n d e m m' strange_byte h p = p
past_more n d e m m' unexpected h p = p
past_more n d e m m' long_name h p = p
past_more n d e m m' too_deep h p = p
past_more n d e m m' too_many h p = omega arith

past_deeper : (n d e x y m : ℕ) (f : Cause) → d ≡ x + 1 → e ≡ y + 1 → Past n x y m f → Past n d e m f
past_deeper n d e x y m strange_byte a b p = p
past_deeper n d e x y m unexpected a b p = p
past_deeper n d e x y m long_name a b p = p
past_deeper n d e x y m too_deep a b p = omega arith
past_deeper n d e x y m too_many a b p = p

-- the outcome of the rules, where e levels were left and c names were read before, agrees with a derivation that ends at j
-- with codes w and names ns: it is the same, or the refusal is for a limit that the derivation passes
abbrev pub Agrees : ℕ → ℕ → ℕ → ℕ → Outcome → ℕ → List ℕ → List (List ℕ) → Type 0
Agrees n d e c (good j' w' ns') j w ns = (j' ≡ j) × (w' ≡ w) × (ns' ≡ ns)
Agrees n d e c (bad f k) j w ns = Past n d e (c + length ns) f

-- a part and what follows it
agrees_after : (n d e c x j : ℕ) (w w' v : List ℕ) (ns ns' ms : List (List ℕ)) (o : Outcome) → w' ≡ w → ns' ≡ ns →
    x ≡ c + length ns' → Agrees n d e x o j v ms → Agrees n d e c (after w' ns' o) j (w ++ v) (ns ++ ms)
agrees_after n d e c x j w w' v ns ns' ms (good j' v' ms') a b h (p, q, r) = (p, cc, cc)
agrees_after n d e c x j w w' v ns ns' ms (bad f k) a b h p = let l = length-append ns ms in let z : length ns' ≡ length ns = ap length b in past_more n d e (x + length ms) (c + length (ns ++ ms)) f (omega arith) p

agrees_first : (n d e c j : ℕ) (w v : List ℕ) (ns ms : List (List ℕ)) (f : Cause) (k : ℕ) → Past n d e (c + length ns) f →
    Agrees n d e c (bad f k) j (w ++ v) (ns ++ ms)
agrees_first n d e c j w v ns ms f k p = past_more n d e (c + length ns) (c + length (ns ++ ms)) f (omega (arith, length-append ns ms)) p

-- a name
compare_name : (t : List ℕ) (n d : ℕ) {b k j i e c : ℕ} {m : List ℕ} {o : Outcome} → Name t n b k → Marks t k j m →
    While white t i b → Reads t particle e i c o → Closed t j → Agrees n d e c o j (1 ∷ m) (slice t b k ∷ [])
compare_name t n d {b} {k} nm mk a (p_name {b = b'} {k = k'} {j = j'} {m = m'} a' s r h z mk') f =
    let eb : b' ≡ b = same a a' (start_black (get_or t b 0) nm.first) in
    let ek : k' ≡ k = same nm.later (subst (λ (x : ℕ). Longest inner t (x + 1) k') eb r) (marks_outside t mk f) in
    let x = same_mark t mk (subst (λ (x : ℕ). Mark t x j' m') ek mk') f in
    (x.0, ap (λ (l : List ℕ). 1 ∷ l) x.1, cc)
compare_name t n d {b} {k} nm mk a (p_long {b = b'} {k = k'} a' s r h) f =
    let eb : b' ≡ b = same a a' (start_black (get_or t b 0) nm.first) in
    let ek : k' ≡ k = same nm.later (subst (λ (x : ℕ). Longest inner t (x + 1) k') eb r) (marks_outside t mk f) in
    omega (arith, nm.short)
compare_name t n d nm mk a (p_many a' s r h z) f = omega arith
compare_name t n d {b} nm mk a (p_deep a' s h) f = absurd (clash (ap (tok t) (same a a' (start_black (get_or t b 0) nm.first)) ∙ tok_word t b nm.first) s)
compare_name t n d {b} nm mk a (p_group a' s h r m) f = absurd (clash (ap (tok t) (same a a' (start_black (get_or t b 0) nm.first)) ∙ tok_word t b nm.first) s)
compare_name t n d {b} nm mk a (p_group_bad a' s h r) f = absurd (clash (ap (tok t) (same a a' (start_black (get_or t b 0) nm.first)) ∙ tok_word t b nm.first) s)
compare_name t n d {b} nm mk a (p_none a' x y) f = absurd (x (ap (tok t) (same a a' (start_black (get_or t b 0) nm.first)) ∙ tok_word t b nm.first))

-- a group: the rules for its inside agree with a derivation of it
abbrev Inside : List ℕ → ℕ → ℕ → ℕ → ℕ → List ℕ → List (List ℕ) → Type 0
Inside t n d i j w ns = (x e c : ℕ) (o : Outcome) → d ≡ x + 1 → Reads t body e (i + 1) c o → Agrees n x e c o j w ns

compare_group : (t : List ℕ) (n d x : ℕ) {b k j i e c : ℕ} {w m : List ℕ} {ns : List (List ℕ)} {o : Outcome} →
    get_or t b 0 ≡ 40 → d ≡ x + 1 → Inside t n d b k w ns → Marks t k j m → While white t i b → Reads t particle e i c o →
    Closed t j → Agrees n d e c o j (w ++ m) ns
compare_group t n d x {b} br dx ih mk a (p_name a' s r h z m) f = absurd (clash s (ap (tok t) (same a a' (ap white br)) ∙ tok_open t b br))
compare_group t n d x {b} br dx ih mk a (p_long a' s r h) f = absurd (clash s (ap (tok t) (same a a' (ap white br)) ∙ tok_open t b br))
compare_group t n d x {b} br dx ih mk a (p_many a' s r h z) f = absurd (clash s (ap (tok t) (same a a' (ap white br)) ∙ tok_open t b br))
compare_group t n d x br dx ih mk a (p_deep a' s h) f = omega arith
compare_group t n d x {b} {k} {j} {i} {e} {c} {w} {m} br dx ih mk a (p_group {x = y} {b = b'} {k = k'} {j = j'} {w = w'} {m = m'} {ns = ns'} a' s h r mk') f =
    let eb : b' ≡ b = same a a' (ap white br) in
    let z = ih x y c (good k' w' ns') dx (subst (λ (q : ℕ). Reads t body y (q + 1) c (good k' w' ns')) eb r) in
    let v = same_mark t mk (subst (λ (q : ℕ). Mark t q j' m') z.0 mk') f in
    let one' = z.1 in
    let two = v.1 in
    (v.0, cc, z.2)
compare_group t n d x {b} {k} {j} {i} {e} {c} {w} {m} {ns} br dx ih mk a (p_group_bad {x = y} {b = b'} {k = k'} {f = q} a' s h r) f =
    let eb : b' ≡ b = same a a' (ap white br) in
    past_deeper n d e x y (c + length ns) q dx h (ih x y c (bad q k') dx (subst (λ (z : ℕ). Reads t body y (z + 1) c (bad q k')) eb r))
compare_group t n d x {b} br dx ih mk a (p_none a' u v) f = absurd (v (ap (tok t) (same a a' (ap white br)) ∙ tok_open t b br))

-- the rules agree with a derivation by the production, where nothing goes on with a particle behind its end
abbrev Compared : List ℕ → ℕ → Sym → ℕ → ℕ → ℕ → List ℕ → List (List ℕ) → Type 0
Compared t n cp d b j w ns = (i e c : ℕ) (o : Outcome) → While white t i b → Reads t particle e i c o → Closed t j → Agrees n d e c o j w ns
Compared t n choice d i j w ns = Inside t n d i j w ns
Compared t n seq d i j w ns = Inside t n d i j w ns
Compared t n (rest g) d i j w ns = (e c : ℕ) (o : Outcome) → Reads t (onward g) e i c o → Agrees n d e c o j w ns

compare_body : (t : List ℕ) (n x : ℕ) (g : Chain) {i b k j e c : ℕ} {w v : List ℕ} {ns ms : List (List ℕ)} {o : Outcome} →
    While white t i b → Compared t n cp x b k w ns → Closed t k →
    ((l : ℕ) → Longest white t k l → chain_of_tok (tok t l) ≡ g) → Compared t n (rest g) x k j v ms → Reads t body e i c o →
    Agrees n x e c o j (w ++ v) (ns ++ ms)
compare_body t n x g {i} {b} {k} {j} {e} {c} {w} {v} {ns} {ms} a p cl ch q (b_bad {k = y} {f = f} r) = agrees_first n x e c j w v ns ms f y (p i e c (bad f y) a r cl)
compare_body t n x g {i} {b} {k} {j} {e} {c} {w} {v} {ns} {ms} a p cl ch q (b_goes_on {k = k'} {l = l} {x = y} {w = w'} {ns = ns'} {g = g'} {o = o'} r u h z q') =
    let s = p i e c (good k' w' ns') a r cl in
    let u' = subst (λ (d : ℕ). Longest white t d l) s.0 u in
    let eg : g' ≡ g = h ∙ ch l u' in
    let there = subst (λ (d : ℕ). Reads t (onward g') e d y o') s.0 q' in
    agrees_after n x e c y j w w' v ns ns' ms o' s.1 s.2 z (q e y o' (subst (λ (d : Chain). Reads t (onward d) e k y o') eg there))

-- behind the last part of a group
done_here : (t : List ℕ) {l l' i : ℕ} → While white t i l → Longest white t i l' → get_or t l 0 ≡ 41 →
    (l' ≡ l) × (tok t l' ≡ closes)
done_here t {l} a a' e = let h = same a a' (ap white e) in (h, ap (tok t) h ∙ tok_close t l e)

compare_done : (t : List ℕ) (n d : ℕ) {g : Chain} {i l e c : ℕ} {o : Outcome} → While white t i l → get_or t l 0 ≡ 41 →
    Reads t (onward g) e i c o → Agrees n d e c o (l + 1) [] []
compare_done t n d a e (o_done a' s) = (ap (λ (y : ℕ). y + 1) (done_here t a a' e).0, refl, refl)
compare_done t n d a e (o_bad {g = g} a' s r) = absurd (not_both s (ap (joins g) (done_here t a a' e).1 ∙ joins_close g))
compare_done t n d a e (o_next {g = g} a' s r x q) = absurd (not_both s (ap (joins g) (done_here t a a' e).1 ∙ joins_close g))
compare_done t n d a e (o_none a' x y) = absurd (x (done_here t a a' e).1)

compare_next : (t : List ℕ) (n d : ℕ) (g : Chain) {i l b k j e c : ℕ} {w v : List ℕ} {ns ms : List (List ℕ)} {o : Outcome} →
    While white t i l → get_or t l 0 ≡ sign g → While white t (l + 1) b → Compared t n cp d b k w ns → Closed t k →
    Compared t n (rest g) d k j v ms → Reads t (onward g) e i c o →
    Agrees n d e c o j ((w ++ (code g ∷ [])) ++ v) (ns ++ ms)
compare_next t n d g {l = l} a s b p cl q (o_done a' z) = absurd (not_both (tok_joins t l g s) (ap (joins g) (ap (tok t) (sym (same a a' (sign_black (get_or t l 0) g s))) ∙ z) ∙ joins_close g))
compare_next t n d g {i} {l} {b} {k} {j} {e} {c} {w} {v} {ns} {ms} a s u p cl q (o_bad {l = l'} {k = y} {f = f} a' z r) =
    let el : l' ≡ l = same a a' (sign_black (get_or t l 0) g s) in
    agrees_first n d e c j (w ++ (code g ∷ [])) v ns ms f y (p (l + 1) e c (bad f y) u (subst (λ (h : ℕ). Reads t particle e (h + 1) c (bad f y)) el r) cl)
compare_next t n d g {i} {l} {b} {k} {j} {e} {c} {w} {v} {ns} {ms} a s u p cl q (o_next {l = l'} {k = k'} {x = y} {w = w'} {ns = ns'} {o = o'} a' z r x q') =
    let el : l' ≡ l = same a a' (sign_black (get_or t l 0) g s) in
    let h = p (l + 1) e c (good k' w' ns') u (subst (λ (h : ℕ). Reads t particle e (h + 1) c (good k' w' ns')) el r) cl in
    agrees_after n d e c y j (w ++ (code g ∷ [])) (w' ++ (code g ∷ [])) v ns ns' ms o' (ap (λ (f : List ℕ). f ++ (code g ∷ [])) h.1) h.2 x (q e y o' (subst (λ (f : ℕ). Reads t (onward g) e f y o') h.0 q'))
compare_next t n d g {i} {l} a s u p cl q (o_none a' x y) = absurd (not_both (ap (λ (z : ℕ). joins g (tok t z)) (same a a' (sign_black (get_or t l 0) g s)) ∙ tok_joins t l g s) y)

choice_chain : (t : List ℕ) {k l : ℕ} → While white t k l → get_or t l 0 ≡ 124 → (l' : ℕ) → Longest white t k l' →
    chain_of_tok (tok t l') ≡ Choice
choice_chain t {k} {l} a e l' u = ap (λ (y : ℕ). chain_of_tok (tok t y)) (same a u (ap white e)) ∙ ap chain_of_tok (tok_bar t l e)

seq_chain : (t : List ℕ) {n d k j : ℕ} {v : List ℕ} {ms : List (List ℕ)} → Is t n (rest Seq) d k j v ms → (l' : ℕ) →
    Longest white t k l' → chain_of_tok (tok t l') ≡ Seq
seq_chain t r l' u =
    let h = head_rest t r in
    ⊎_elim (λ e. ap (λ (y : ℕ). chain_of_tok (tok t y)) (same h.1 u (ap white e)) ∙ ap chain_of_tok (tok_close t h.0 e)) (λ e. ap (λ (y : ℕ). chain_of_tok (tok t y)) (same h.1 u (ap white e)) ∙ ap chain_of_tok (tok_comma t h.0 e)) h.2

complete : {t : List ℕ} {n : ℕ} {s : Sym} {d i j : ℕ} {w : List ℕ} {ns : List (List ℕ)} → Is t n s d i j w ns →
    Compared t n s d i j w ns
complete {t} {n} {s} {d} (cp_name nm mk) = λ i e c o a r f. compare_name t n d nm mk a r f
complete {t} {n} {s} {d} (cp_choice r mk) = let h = head_choice r in λ i e c o a q f. compare_group t n d h.level h.bracket h.down (complete r) mk a q f
complete {t} {n} {s} {d} (cp_seq r mk) = let h = head_seq r in λ i e c o a q f. compare_group t n d h.level h.bracket h.down (complete r) mk a q f
complete {t} {n} {s} {d} {i} {j} (is_choice {e = x} {w = w} {v = v} {ns = ns} {ms = ms} br de a p u h q) =
    λ y e c o dy r.
    let xy : x ≡ y = omega arith in
    subst (λ (z : ℕ). Agrees n z e c o j (w ++ v) (ns ++ ms)) xy (compare_body t n x Choice a (complete p) (after_cp t Choice q) (choice_chain t u h) (complete q) r)
complete {t} {n} {s} {d} {i} {j} (is_seq {e = x} {w = w} {v = v} {ns = ns} {ms = ms} br de a p q) =
    λ y e c o dy r.
    let xy : x ≡ y = omega arith in
    subst (λ (z : ℕ). Agrees n z e c o j (w ++ v) (ns ++ ms)) xy (compare_body t n x Seq a (complete p) (after_cp t Seq q) (seq_chain t q) (complete q) r)
complete {t} {n} {s} {d} (rest_done a h) = λ e c o r. compare_done t n d a h r
complete {t} {n} {s} {d} (rest_next {g = g} a h u p q) = λ e c o r. compare_next t n d g a h u (complete p) (after_cp t g q) (complete q) r

-- Mixed
compare_named : (t : List ℕ) (n d y : ℕ) {b k i e c : ℕ} {o : Outcome} → Name t n b k → inner (get_or t k 0) ≡ false →
    While white t i b → Reads t named e i c o → Agrees n d y c o k (1 ∷ []) (slice t b k ∷ [])
compare_named t n d y {b} {k} nm f a (n_name {b = b'} {k = k'} a' s r h z) =
    let eb : b' ≡ b = same a a' (start_black (get_or t b 0) nm.first) in
    let ek : k' ≡ k = same nm.later (subst (λ (x : ℕ). Longest inner t (x + 1) k') eb r) f in
    (ek, refl, cc)
compare_named t n d y {b} {k} nm f a (n_long {b = b'} {k = k'} a' s r h) =
    let eb : b' ≡ b = same a a' (start_black (get_or t b 0) nm.first) in
    let ek : k' ≡ k = same nm.later (subst (λ (x : ℕ). Longest inner t (x + 1) k') eb r) f in
    omega (arith, nm.short)
compare_named t n d y nm f a (n_many a' s r h z) = omega arith
compare_named t n d y {b} nm f a (n_none a' x) = absurd (x (ap (tok t) (same a a' (start_black (get_or t b 0) nm.first)) ∙ tok_word t b nm.first))

bar_here : (t : List ℕ) {l l' i : ℕ} → While white t i l → Longest white t i l' → get_or t l 0 ≡ 124 →
    (l' ≡ l) × (tok t l' ≡ bar)
bar_here t {l} a a' e = let h = same a a' (ap white e) in (h, ap (tok t) h ∙ tok_bar t l e)

clash' : {k : Tok} → k ≡ closes → k ≡ bar → ⊥
clash' a b = let z : ◌≡◌ {A = ℕ} 0 1 = cc in omega arith

listed_end : (t : List ℕ) (n d y : ℕ) {i l e c : ℕ} {o : Outcome} → While white t i l → get_or t l 0 ≡ 41 →
    Reads t listed e i c o → Agrees n d y c o (l + 1) [] []
listed_end t n d y a h (l_done a' s) = (ap (λ (x : ℕ). x + 1) (done_here t a a' h).0, refl, refl)
listed_end t n d y a h (l_bad a' s r) = absurd (clash' (done_here t a a' h).1 s)
listed_end t n d y a h (l_next a' s r x q) = absurd (clash' (done_here t a a' h).1 s)
listed_end t n d y a h (l_none a' x _) = absurd (x (done_here t a a' h).1)

listed_more : (t : List ℕ) (n d y : ℕ) {i l b k j e c : ℕ} {v : List ℕ} {ms : List (List ℕ)} {o : Outcome} →
    While white t i l → get_or t l 0 ≡ 124 → While white t (l + 1) b → Name t n b k → inner (get_or t k 0) ≡ false →
    ((e c : ℕ) (o : Outcome) → Reads t listed e k c o → Agrees n d y c o j v ms) → Reads t listed e i c o →
    Agrees n d y c o j (1 ∷ (3 ∷ v)) (slice t b k ∷ ms)
listed_more t n d y a h u nm f q (l_done a' s) = absurd (clash' s (bar_here t a a' h).1)
listed_more t n d y {i} {l} {b} {k} {j} {e} {c} {v} {ms} a h u nm f q (l_bad {k = z} {f = g} a' s r) =
    agrees_first n d y c j (1 ∷ (3 ∷ [])) v (slice t b k ∷ []) ms g z (compare_named t n d y nm f u (subst (λ (x : ℕ). Reads t named e (x + 1) c (bad g z)) (bar_here t a a' h).0 r))
listed_more t n d y {i} {l} {b} {k} {j} {e} {c} {v} {ms} a h u nm f q (l_next {k = k'} {x = x} {w = w'} {ns = ns'} {o = o'} a' s r z q') =
    let p = compare_named t n d y nm f u (subst (λ (x : ℕ). Reads t named e (x + 1) c (good k' w' ns')) (bar_here t a a' h).0 r) in
    agrees_after n d y c x j (1 ∷ (3 ∷ [])) (w' ++ (3 ∷ [])) v (slice t b k ∷ []) ns' ms o' (ap (λ (g : List ℕ). g ++ (3 ∷ [])) p.1) p.2 z (q e x o' (subst (λ (g : ℕ). Reads t listed e g x o') p.0 q'))
listed_more t n d y a h u nm f q (l_none a' _ x) = absurd (x (bar_here t a a' h).1)

complete_listed : (t : List ℕ) (n d y : ℕ) {i j : ℕ} {v : List ℕ} {ms : List (List ℕ)} → Listed t n i j v ms →
    (e c : ℕ) (o : Outcome) → Reads t listed e i c o → Agrees n d y c o j v ms
complete_listed t n d y (listed_done a h) = λ e c o r. listed_end t n d y a h r
complete_listed t n d y (listed_next a h u nm q) = λ e c o r. listed_more t n d y a h u nm (listed_outside t q) (complete_listed t n d y q) r

mix_alone : (t : List ℕ) (n d : ℕ) {i l : ℕ} {o : Outcome} → While white t i l → get_or t l 0 ≡ 41 → Closed t (l + 1) →
    Mixes t i o → Agrees n d 16 0 o (l + 1) (0 ∷ []) []
mix_alone t n d a h cl (x_text a' s f) = (ap (λ (x : ℕ). x + 1) (done_here t a a' h).0, refl, refl)
mix_alone t n d {i} {l} a h cl (x_star {l = l'} a' s f) = absurd (cl.no_mark 5 (star_5 (ap (λ (x : ℕ). tok t (x + 1)) (sym (done_here t a a' h).0) ∙ f) refl))
mix_alone t n d a h cl (x_none a' x _) = absurd (x (done_here t a a' h).1)
mix_alone t n d a h cl (x_name_bad a' s r) = absurd (clash' (done_here t a a' h).1 s)
mix_alone t n d a h cl (x_list_bad a' s r x q) = absurd (clash' (done_here t a a' h).1 s)
mix_alone t n d a h cl (x_names a' s r x q f) = absurd (clash' (done_here t a a' h).1 s)
mix_alone t n d a h cl (x_no_star a' s r x q f g) = absurd (clash' (done_here t a a' h).1 s)

mix_star : (t : List ℕ) (n d : ℕ) {i l : ℕ} {o : Outcome} → While white t i l → get_or t l 0 ≡ 41 → get_or t (l + 1) 0 ≡ 42 →
    Mixes t i o → Agrees n d 16 0 o (l + 1 + 1) (0 ∷ []) []
mix_star t n d {i} {l} a h z (x_text a' s f) = absurd (f (ap (λ (x : ℕ). tok t (x + 1)) (done_here t a a' h).0 ∙ tok_star t (l + 1) z))
mix_star t n d a h z (x_star a' s f) = (ap (λ (x : ℕ). x + 1 + 1) (done_here t a a' h).0, refl, refl)
mix_star t n d a h z (x_none a' x _) = absurd (x (done_here t a a' h).1)
mix_star t n d a h z (x_name_bad a' s r) = absurd (clash' (done_here t a a' h).1 s)
mix_star t n d a h z (x_list_bad a' s r x q) = absurd (clash' (done_here t a a' h).1 s)
mix_star t n d a h z (x_names a' s r x q f) = absurd (clash' (done_here t a a' h).1 s)
mix_star t n d a h z (x_no_star a' s r x q f g) = absurd (clash' (done_here t a a' h).1 s)

mix_names : (t : List ℕ) (n d : ℕ) {i l b k j : ℕ} {v : List ℕ} {ms : List (List ℕ)} {o : Outcome} → While white t i l →
    get_or t l 0 ≡ 124 → While white t (l + 1) b → Name t n b k → Listed t n k j v ms → get_or t j 0 ≡ 42 → Mixes t i o →
    Agrees n d 16 0 o (j + 1) ((1 ∷ v) ++ (5 ∷ [])) (slice t b k ∷ ms)
mix_names t n d a h u nm q z (x_text a' s f) = absurd (clash' s (bar_here t a a' h).1)
mix_names t n d a h u nm q z (x_star a' s f) = absurd (clash' s (bar_here t a a' h).1)
mix_names t n d a h u nm q z (x_none a' _ x) = absurd (x (bar_here t a a' h).1)
mix_names t n d {i} {l} {b} {k} {j} {v} {ms} a h u nm q z (x_name_bad {k = y} {f = f} a' s r) =
    agrees_first n d 16 0 (j + 1) (1 ∷ []) v (slice t b k ∷ []) ms f y (compare_named t n d 16 nm (listed_outside t q) u (subst (λ (x : ℕ). Reads t named 15 (x + 1) 0 (bad f y)) (bar_here t a a' h).0 r))
mix_names t n d {i} {l} {b} {k} {j} {v} {ms} a h u nm q z (x_list_bad {k = k'} {y = y} {c = c} {w = w'} {ns = ns'} {f = f} a' s r x q') =
    let p = compare_named t n d 16 nm (listed_outside t q) u (subst (λ (x : ℕ). Reads t named 15 (x + 1) 0 (good k' w' ns')) (bar_here t a a' h).0 r) in
    let o = complete_listed t n d 16 q 15 c (bad f y) (subst (λ (g : ℕ). Reads t listed 15 g c (bad f y)) p.0 q') in
    agrees_after n d 16 0 c j (1 ∷ []) w' v (slice t b k ∷ []) ns' ms (bad f y) p.1 p.2 (omega arith) o
mix_names t n d {i} {l} {b} {k} {j} {v} {ms} a h u nm q z (x_names {k = k'} {j = j'} {c = c} {w = w'} {v = v'} {ns = ns'} {ms = ms'} a' s r x q' f) =
    let p = compare_named t n d 16 nm (listed_outside t q) u (subst (λ (x : ℕ). Reads t named 15 (x + 1) 0 (good k' w' ns')) (bar_here t a a' h).0 r) in
    let o = complete_listed t n d 16 q 15 c (good j' v' ms') (subst (λ (g : ℕ). Reads t listed 15 g c (good j' v' ms')) p.0 q') in
    (ap (λ (g : ℕ). g + 1) o.0, ap (λ (g : List ℕ). (g ++ v') ++ (5 ∷ [])) p.1 ∙ ap (λ (g : List ℕ). (1 ∷ g) ++ (5 ∷ [])) o.1, ap (λ (g : List (List ℕ)). g ++ ms') p.2 ∙ ap (λ (g : List (List ℕ)). slice t b k ∷ g) o.2)
mix_names t n d {i} {l} {b} {k} {j} {v} {ms} a h u nm q z (x_no_star {k = k'} {j = j'} {c = c} {w = w'} {v = v'} {ns = ns'} {ms = ms'} a' s r x q' f g) =
    let p = compare_named t n d 16 nm (listed_outside t q) u (subst (λ (x : ℕ). Reads t named 15 (x + 1) 0 (good k' w' ns')) (bar_here t a a' h).0 r) in
    let o = complete_listed t n d 16 q 15 c (good j' v' ms') (subst (λ (g : ℕ). Reads t listed 15 g c (good j' v' ms')) p.0 q') in
    absurd (f (ap (tok t) o.0 ∙ tok_star t j z))

open_empty : (t : List ℕ) (n d : ℕ) {b i : ℕ} {o : Outcome} → slice t b (b + 5) ≡ codes "EMPTY" → While white t i b →
    Closed t (b + 5) → Opens t i o → Agrees n d 16 0 o (b + 5) (0 ∷ []) []
open_empty t n d {b} e a cl (c_empty {b = b'} {k = k'} a' s r h) =
    let eb : b' ≡ b = same a a' (start_black (get_or t b 0) (empty_start t b e)) in
    (same (empty_run t b e) (subst (λ (x : ℕ). Longest inner t (x + 1) k') eb r) cl.no_inner, refl, refl)
open_empty t n d {b} e a cl (c_word {b = b'} {k = k'} a' s r h) =
    let eb : b' ≡ b = same a a' (start_black (get_or t b 0) (empty_start t b e)) in
    let ek : k' ≡ b + 5 = same (empty_run t b e) (subst (λ (x : ℕ). Longest inner t (x + 1) k') eb r) cl.no_inner in
    absurd (h (ap (λ (x : ℕ). slice t x k') eb ∙ ap (slice t b) ek ∙ e))
open_empty t n d {b} e a cl (c_none a' x y) = absurd (x (ap (tok t) (same a a' (start_black (get_or t b 0) (empty_start t b e))) ∙ tok_word t b (empty_start t b e)))
open_empty t n d {b} e a cl (c_mixed a' s u p x) = absurd (clash (ap (tok t) (same a a' (start_black (get_or t b 0) (empty_start t b e))) ∙ tok_word t b (empty_start t b e)) s)
open_empty t n d {b} e a cl (c_children a' s u p x m) = absurd (clash (ap (tok t) (same a a' (start_black (get_or t b 0) (empty_start t b e))) ∙ tok_word t b (empty_start t b e)) s)
open_empty t n d {b} e a cl (c_bad a' s u p x) = absurd (clash (ap (tok t) (same a a' (start_black (get_or t b 0) (empty_start t b e))) ∙ tok_word t b (empty_start t b e)) s)

open_mixed : (t : List ℕ) (n d : ℕ) {b i y j : ℕ} {w : List ℕ} {ns : List (List ℕ)} {o : Outcome} → get_or t b 0 ≡ 40 →
    While white t (b + 1) y → slice t y (y + 7) ≡ codes "#PCDATA" →
    ((o : Outcome) → Mixes t (y + 7) o → Agrees n d 16 0 o j w ns) → While white t i b → Opens t i o →
    Agrees n d 16 0 o j w ns
open_mixed t n d {b} br u p k a (c_empty a' s r h) = absurd (clash s (ap (tok t) (same a a' (ap white br)) ∙ tok_open t b br))
open_mixed t n d {b} br u p k a (c_word a' s r h) = absurd (clash s (ap (tok t) (same a a' (ap white br)) ∙ tok_open t b br))
open_mixed t n d {b} br u p k a (c_none a' x y) = absurd (y (ap (tok t) (same a a' (ap white br)) ∙ tok_open t b br))
open_mixed t n d {b} {i} {y} br u p k a (c_mixed {b = b'} {l = l'} {o = o} a' s u' p' x) =
    let eb : b' ≡ b = same a a' (ap white br) in
    let el : l' ≡ y = same u (subst (λ (z : ℕ). Longest white t (z + 1) l') eb u') (ap white (hash_byte t y p)) in
    k o (subst (λ (z : ℕ). Mixes t (z + 7) o) el x)
open_mixed t n d {b} {i} {y} br u p k a (c_children {b = b'} {l = l'} a' s u' p' r m) =
    let eb : b' ≡ b = same a a' (ap white br) in
    let el : l' ≡ y = same u (subst (λ (z : ℕ). Longest white t (z + 1) l') eb u') (ap white (hash_byte t y p)) in
    absurd (p' (ap (tok t) el ∙ pcdata_tok t y p))
open_mixed t n d {b} {i} {y} br u p k a (c_bad {b = b'} {l = l'} a' s u' p' r) =
    let eb : b' ≡ b = same a a' (ap white br) in
    let el : l' ≡ y = same u (subst (λ (z : ℕ). Longest white t (z + 1) l') eb u') (ap white (hash_byte t y p)) in
    absurd (p' (ap (tok t) el ∙ pcdata_tok t y p))

open_children : (t : List ℕ) (n d : ℕ) {b k j i : ℕ} {w m : List ℕ} {ns : List (List ℕ)} {o : Outcome} → Head t d b →
    Inside t n d b k w ns → Marks t k j m → While white t i b → Closed t j → Opens t i o →
    Agrees n d 16 0 o j (w ++ m) ns
open_children t n d {b} hd ih mk a f (c_empty a' s r h) = absurd (clash s (ap (tok t) (same a a' (ap white hd.bracket)) ∙ tok_open t b hd.bracket))
open_children t n d {b} hd ih mk a f (c_word a' s r h) = absurd (clash s (ap (tok t) (same a a' (ap white hd.bracket)) ∙ tok_open t b hd.bracket))
open_children t n d {b} hd ih mk a f (c_none a' x y) = absurd (y (ap (tok t) (same a a' (ap white hd.bracket)) ∙ tok_open t b hd.bracket))
open_children t n d {b} hd ih mk a f (c_mixed {b = b'} {l = l'} a' s u p x) =
    let eb : b' ≡ b = same a a' (ap white hd.bracket) in
    let el : l' ≡ hd.begin = same hd.before (subst (λ (z : ℕ). Longest white t (z + 1) l') eb u) hd.black in
    absurd (no_pcdata hd.part (ap (tok t) (sym el) ∙ p))
open_children t n d {b} {k} {j} {i} {w} {m} hd ih mk a f (c_children {b = b'} {k = k'} {j = j'} {w = w'} {m = m'} {ns = ns'} a' s u p r mk') =
    let eb : b' ≡ b = same a a' (ap white hd.bracket) in
    let z = ih hd.level 15 0 (good k' w' ns') hd.down (subst (λ (q : ℕ). Reads t body 15 (q + 1) 0 (good k' w' ns')) eb r) in
    let v = same_mark t mk (subst (λ (q : ℕ). Mark t q j' m') z.0 mk') f in
    let one' = z.1 in
    let two = v.1 in
    (v.0, cc, z.2)
open_children t n d {b} {k} {j} {i} {w} {m} {ns} hd ih mk a f (c_bad {b = b'} {k = k'} {f = q} a' s u p r) =
    let eb : b' ≡ b = same a a' (ap white hd.bracket) in
    past_deeper n d 16 hd.level 15 (0 + length ns) q hd.down refl (ih hd.level 15 0 (bad q k') hd.down (subst (λ (z : ℕ). Reads t body 15 (z + 1) 0 (bad q k')) eb r))

mixed_agrees : (t : List ℕ) (n d : ℕ) {b i j : ℕ} {w : List ℕ} {ns : List (List ℕ)} {o : Outcome} → Mixed t n b j w ns →
    While white t i b → Closed t j → Opens t i o → Agrees n d 16 0 o j w ns
mixed_agrees t n d (text_alone br u p z e) a cl r = open_mixed t n d br u p (λ o x. mix_alone t n d z e cl x) a r
mixed_agrees t n d (text_star br u p z e s) a cl r = open_mixed t n d br u p (λ o x. mix_star t n d z e s x) a r
mixed_agrees t n d (text_names br u p z e y nm q s) a cl r = open_mixed t n d br u p (λ o x. mix_names t n d z e y nm q s x) a r

open_agrees : (t : List ℕ) (n d : ℕ) {b i j : ℕ} {w : List ℕ} {ns : List (List ℕ)} {o : Outcome} →
    ContentSpec t n d b j w ns → While white t i b → Closed t j → Opens t i o → Agrees n d 16 0 o j w ns
open_agrees t n d (empty e) a cl r = open_empty t n d e a cl r
open_agrees t n d (mixed m) a cl r = mixed_agrees t n d m a cl r
open_agrees t n d (children_choice q mk) a cl r = open_children t n d (head_choice q) (complete q) mk a cl r
open_agrees t n d (children_seq q mk) a cl r = open_children t n d (head_seq q) (complete q) mk a cl r

-- the outcome for a whole text agrees with a model of it
abbrev pub Final : ℕ → ℕ → Outcome → List ℕ → List (List ℕ) → Type 0
Final n d (good j w' ns') w ns = (w' ≡ w) × (ns' ≡ ns)
Final n d (bad f k) w ns = Past n d 16 (length ns) f

pub whole_agrees : (t : List ℕ) {n d : ℕ} {w : List ℕ} {ns : List (List ℕ)} {o : Outcome} → Model t n d w ns → Whole t o →
    Final n d o w ns
whole_agrees t {n} {d} {w} {ns} m (w_good r u e) = let h = open_agrees t n d m.spec m.before (after_white t m.after (at_end t)) r in (h.1, h.2)
whole_agrees t {n} {d} {w} {ns} m (w_bad {f = f} r) = past_more n d 16 (0 + length ns) (length ns) f (omega arith) (open_agrees t n d m.spec m.before (after_white t m.after (at_end t)) r)
whole_agrees t {n} {d} {w} {ns} m (w_left {l = l} r u x) =
    let h = open_agrees t n d m.spec m.before (after_white t m.after (at_end t)) r in
    let there : l ≡ length t = same m.after (subst (λ (z : ℕ). Longest white t z l) h.0 u) (ap white (get_or_past t (length t) 0 (omega arith))) in
    absurd (x (ap (tok t) there ∙ tok_past t (length t) (omega arith)))

refutes : (t : List ℕ) (c : Cause) (k : ℕ) → Whole t (bad c k) → Refutes t c
refutes t strange_byte k r = λ n d w ns m. whole_agrees t m r
refutes t unexpected k r = λ n d w ns m. whole_agrees t m r
refutes t long_name k r = λ n d w ns m. whole_agrees t m r
refutes t too_deep k r = λ n d w ns m. whole_agrees t m r
refutes t too_many k r = λ n d w ns m. whole_agrees t m r

-- what a refusal by the rules says of the productions
pub refused_at : (t : List ℕ) (c : Cause) (k : ℕ) → Whole t (bad c k) → RefusedAt t c k
refused_at t c k r = record { reads = r; refutes = refutes t c k r; begun = begun t r; alike = λ t' a. refutes t' c k (still_bad t t' c k a r) }
