-- A text has at most one list of codes and one of names. Assumes nothing.
use Rattle.std.proofs.Common.{◌≡◌, ℕ, ◌+◌, true, false, List, [], ◌∷◌, ◌++◌, get_or, codes, sym, refl, ap, ◌∙◌, subst, ⊎_elim, arith}
use Rattle.symbols.specs.Rule.{start, inner}
use Rattle.tokens.specs.Bytes.{white}
use Rattle.tokens.specs.Tokens.{tok, While, slice}
use Rattle.tokens.proofs.Runs.{not_both, same_run}
use Rattle.tokens.proofs.Signs.{tok_star}
use Rattle.grammar.specs.declared.Chain.{Chain}
use Rattle.grammar.specs.declared.Chain.TheVariants.{Choice, Seq}
use Rattle.grammar.specs.Grammar.{sign, code, Name, Marks, unmarked, with_mark, Sym, cp, choice, seq, rest, Is, cp_name, cp_choice, cp_seq, is_choice, is_seq, rest_done, rest_next, Listed, listed_done, listed_next, Mixed, text_alone, text_star, text_names, ContentSpec, empty, mixed, children_choice, children_seq, Model}
use Rattle.grammar.specs.Reads.{star_5}
use Rattle.grammar.proofs.Tokens.{mark_tok, hash_byte}
use Rattle.grammar.proofs.Edges.{Closed, start_black, sign_black, at_end, after_white, one_code, marks_outside, head_rest, after_cp, Head, bracket_choice, bracket_seq, head_cp, head_choice, head_seq, listed_outside, empty_start, pcdata_tok, no_pcdata}

-- two parts end at one place, with the same codes and the same names
abbrev Same : ℕ → ℕ → List ℕ → List ℕ → List (List ℕ) → List (List ℕ) → Type 0
Same j j' w w' ns ns' = (j' ≡ j) × (w' ≡ w) × (ns' ≡ ns)

-- what stands at i by a production is the only thing that does; a choice is no sequence
abbrev Only : List ℕ → Sym → ℕ → ℕ → List ℕ → List (List ℕ) → Type 0
Only t cp i j w ns = (n d j' : ℕ) (w' : List ℕ) (ns' : List (List ℕ)) → Is t n cp d i j' w' ns' → Closed t j → Closed t j' → Same j j' w w' ns ns'
Only t choice i j w ns = ((n d j' : ℕ) (w' : List ℕ) (ns' : List (List ℕ)) → Is t n choice d i j' w' ns' → Same j j' w w' ns ns') × ((n d j' : ℕ) (w' : List ℕ) (ns' : List (List ℕ)) → Is t n seq d i j' w' ns' → ⊥)
Only t seq i j w ns = ((n d j' : ℕ) (w' : List ℕ) (ns' : List (List ℕ)) → Is t n seq d i j' w' ns' → Same j j' w w' ns ns') × ((n d j' : ℕ) (w' : List ℕ) (ns' : List (List ℕ)) → Is t n choice d i j' w' ns' → ⊥)
Only t (rest g) i j w ns = (n d j' : ℕ) (w' : List ℕ) (ns' : List (List ℕ)) → Is t n (rest g) d i j' w' ns' → Same j j' w w' ns ns'

same_marks : (t : List ℕ) {k j j' : ℕ} {m m' : List ℕ} → Marks t k j m → Marks t k j' m' → Closed t j → Closed t j' →
    (j' ≡ j) × (m' ≡ m)
same_marks t unmarked unmarked c c' = (refl, refl)
same_marks t {k} unmarked (with_mark h) c c' = absurd (c.no_mark _ (mark_tok t k h))
same_marks t {k} (with_mark h) unmarked c c' = absurd (c'.no_mark _ (mark_tok t k h))
same_marks t {k} (with_mark h) (with_mark h') c c' = (refl, ap (λ (n : ℕ). n ∷ []) (one_code (mark_tok t k h') (mark_tok t k h)))

-- a name begins with no bracket
no_bracket : {b : ℕ} → start b ≡ true → b ≡ 40 → ⊥
no_bracket s e = not_both s (ap start e)

-- a name with its mark
one_name : (t : List ℕ) {n n' d' b k j j' : ℕ} {m w' : List ℕ} {ns' : List (List ℕ)} → Name t n b k → Marks t k j m →
    Is t n' cp d' b j' w' ns' → Closed t j → Closed t j' → Same j j' (1 ∷ m) w' (slice t b k ∷ []) ns'
one_name t {b = b} {k = k} {j' = j'} nm mk (cp_name {k = k'} {m = m'} nm' mk') c c' =
    let ek : k' ≡ k = same_run nm.later nm'.later (marks_outside t mk c) (marks_outside t mk' c') in
    let x = same_marks t mk (subst (λ (q : ℕ). Marks t q j' m') ek mk') c c' in
    (x.0, ap (λ (l : List ℕ). 1 ∷ l) x.1, cc)
one_name t nm mk (cp_choice r mk') c c' = absurd (no_bracket nm.first (bracket_choice r))
one_name t nm mk (cp_seq r mk') c c' = absurd (no_bracket nm.first (bracket_seq r))

-- a group with its mark
marked_same : (t : List ℕ) {k k' j j' : ℕ} {w w' m m' : List ℕ} {ns ns' : List (List ℕ)} → Same k k' w w' ns ns' →
    Marks t k j m → Marks t k' j' m' → Closed t j → Closed t j' → Same j j' (w ++ m) (w' ++ m') ns ns'
marked_same t {j' = j'} {m' = m'} z mk mk' c c' =
    let x = same_marks t mk (subst (λ (q : ℕ). Marks t q j' m') z.0 mk') c c' in
    let one' = z.1 in
    let two = x.1 in
    (x.0, cc, z.2)

one_choice : (t : List ℕ) {n' d' i k j j' : ℕ} {w m w' : List ℕ} {ns ns' : List (List ℕ)} → get_or t i 0 ≡ 40 →
    Only t choice i k w ns → Marks t k j m → Is t n' cp d' i j' w' ns' → Closed t j → Closed t j' →
    Same j j' (w ++ m) w' ns ns'
one_choice t br o mk (cp_name nm' mk') c c' = absurd (no_bracket nm'.first br)
one_choice t br o mk (cp_choice r mk') c c' = marked_same t (o.0 _ _ _ _ _ r) mk mk' c c'
one_choice t br o mk (cp_seq r mk') c c' = absurd (o.1 _ _ _ _ _ r)

one_seq : (t : List ℕ) {n' d' i k j j' : ℕ} {w m w' : List ℕ} {ns ns' : List (List ℕ)} → get_or t i 0 ≡ 40 →
    Only t seq i k w ns → Marks t k j m → Is t n' cp d' i j' w' ns' → Closed t j → Closed t j' →
    Same j j' (w ++ m) w' ns ns'
one_seq t br o mk (cp_name nm' mk') c c' = absurd (no_bracket nm'.first br)
one_seq t br o mk (cp_choice r mk') c c' = absurd (o.1 _ _ _ _ _ r)
one_seq t br o mk (cp_seq r mk') c c' = marked_same t (o.0 _ _ _ _ _ r) mk mk' c c'

-- the first particle from s on
one_first : (t : List ℕ) {n n' e e' s b b' k k' : ℕ} {w w' : List ℕ} {ns ns' : List (List ℕ)} → While white t s b →
    Is t n cp e b k w ns → Only t cp b k w ns → Closed t k → While white t s b' → Is t n' cp e' b' k' w' ns' →
    Closed t k' → Same k k' w w' ns ns'
one_first t {n' = n'} {e' = e'} {b = b} {b' = b'} {k' = k'} {w' = w'} {ns' = ns'} a p o c a' p' c' =
    let eb : b' ≡ b = same_run a a' (head_cp p).black (head_cp p').black in
    o n' e' k' w' ns' (subst (λ (x : ℕ). Is t n' cp e' x k' w' ns') eb p') c c'

-- a particle, and the rest of its group
one_group : (t : List ℕ) (g : Chain) {n n' e e' s b b' k k' j j' : ℕ} {w w' v v' : List ℕ} {ns ns' ms ms' : List (List ℕ)} →
    While white t s b → Is t n cp e b k w ns → Only t cp b k w ns → Is t n (rest g) e k j v ms →
    Only t (rest g) k j v ms → While white t s b' → Is t n' cp e' b' k' w' ns' → Is t n' (rest g) e' k' j' v' ms' →
    (j' ≡ j) × (w' ≡ w) × (v' ≡ v) × (ns' ≡ ns) × (ms' ≡ ms)
one_group t g {n' = n'} {e' = e'} {k' = k'} {j' = j'} {v' = v'} {ms' = ms'} a p o q r a' p' q' =
    let x = one_first t a p o (after_cp t g q) a' p' (after_cp t g q') in
    let y = r n' e' j' v' ms' (subst (λ (z : ℕ). Is t n' (rest g) e' z j' v' ms') x.0 q') in
    (y.0, x.1, y.1, x.2, y.2)

-- a bar is neither a closing bracket nor a comma
no_bar : (t : List ℕ) {n d k l j : ℕ} {v : List ℕ} {ms : List (List ℕ)} → While white t k l → get_or t l 0 ≡ 124 →
    Is t n (rest Seq) d k j v ms → ⊥
no_bar t {l = l} u h q =
    let x = head_rest t q in
    let black : white (get_or t x.0 0) ≡ false = ⊎_elim (λ e. ap white e) (λ e. ap white e) x.2 in
    let z : x.0 ≡ l = same_run u x.1 (ap white h) black in
    let y : get_or t x.0 0 ≡ get_or t l 0 = ap (λ (m : ℕ). get_or t m 0) z in
    ⊎_elim (λ e. omega arith) (λ e. omega arith) x.2

choice_not_seq : (t : List ℕ) {n n' e d' i b k l j j' : ℕ} {w v w' : List ℕ} {ns ms ns' : List (List ℕ)} →
    While white t (i + 1) b → Is t n cp e b k w ns → Only t cp b k w ns → While white t k l → get_or t l 0 ≡ 124 →
    Is t n (rest Choice) e k j v ms → Is t n' seq d' i j' w' ns' → ⊥
choice_not_seq t {n' = n'} a p o u h q (is_seq {e = e'} {k = k'} {j = j'} {v = v'} {ms = ms'} br de a' p' q') =
    let x = one_first t a p o (after_cp t Choice q) a' p' (after_cp t Seq q') in
    no_bar t u h (subst (λ (z : ℕ). Is t n' (rest Seq) e' z j' v' ms') x.0 q')

seq_not_choice : (t : List ℕ) {n n' e d' i b k j j' : ℕ} {w v w' : List ℕ} {ns ms ns' : List (List ℕ)} →
    While white t (i + 1) b → Is t n cp e b k w ns → Only t cp b k w ns → Is t n (rest Seq) e k j v ms →
    Is t n' choice d' i j' w' ns' → ⊥
seq_not_choice t a p o q (is_choice {l = l} br de a' p' u h q') =
    let x = one_first t a p o (after_cp t Seq q) a' p' (after_cp t Choice q') in
    no_bar t (subst (λ (z : ℕ). While white t z l) x.0 u) h q

same_choice : (t : List ℕ) {n n' e d' i b k j j' : ℕ} {w v w' : List ℕ} {ns ms ns' : List (List ℕ)} →
    While white t (i + 1) b → Is t n cp e b k w ns → Only t cp b k w ns → Is t n (rest Choice) e k j v ms →
    Only t (rest Choice) k j v ms → Is t n' choice d' i j' w' ns' → Same j j' (w ++ v) w' (ns ++ ms) ns'
same_choice t a p o q r (is_choice br de a' p' u h q') = let x = one_group t Choice a p o q r a' p' q' in let y1 = x.1 in let y2 = x.2 in let y3 = x.3 in let y4 = x.4 in (x.0, cc, cc)

same_seq : (t : List ℕ) {n n' e d' i b k j j' : ℕ} {w v w' : List ℕ} {ns ms ns' : List (List ℕ)} →
    While white t (i + 1) b → Is t n cp e b k w ns → Only t cp b k w ns → Is t n (rest Seq) e k j v ms →
    Only t (rest Seq) k j v ms → Is t n' seq d' i j' w' ns' → Same j j' (w ++ v) w' (ns ++ ms) ns'
same_seq t a p o q r (is_seq br de a' p' q') = let x = one_group t Seq a p o q r a' p' q' in let y1 = x.1 in let y2 = x.2 in let y3 = x.3 in let y4 = x.4 in (x.0, cc, cc)

-- the rest of a group
sign_no_close : (g : Chain) {b : ℕ} → b ≡ sign g → b ≡ 41 → ⊥
sign_no_close Choice e h = omega arith
sign_no_close Seq e h = omega arith

close_here : (t : List ℕ) (g : Chain) {i l l' : ℕ} → While white t i l → get_or t l 0 ≡ sign g → While white t i l' →
    get_or t l' 0 ≡ 41 → ⊥
close_here t g {l = l} {l' = l'} a e a' h =
    let z : l' ≡ l = same_run a a' (sign_black (get_or t l 0) g e) (ap white h) in
    sign_no_close g e (ap (λ (m : ℕ). get_or t m 0) (sym z) ∙ h)

same_done : (t : List ℕ) {g : Chain} {n' d' i l j' : ℕ} {w' : List ℕ} {ns' : List (List ℕ)} → While white t i l →
    get_or t l 0 ≡ 41 → Is t n' (rest g) d' i j' w' ns' → Same (l + 1) j' [] w' [] ns'
same_done t a h (rest_done {l = l'} a' h') = (ap (λ (x : ℕ). x + 1) (same_run a a' (ap white h) (ap white h')), refl, refl)
same_done t a h (rest_next {g = g} a' h' u' p' q') = absurd (close_here t g a' h' a h)

same_next : (t : List ℕ) (g : Chain) {n n' d d' i l b k j j' : ℕ} {w v w' : List ℕ} {ns ms ns' : List (List ℕ)} →
    While white t i l → get_or t l 0 ≡ sign g → While white t (l + 1) b → Is t n cp d b k w ns → Only t cp b k w ns →
    Is t n (rest g) d k j v ms → Only t (rest g) k j v ms → Is t n' (rest g) d' i j' w' ns' →
    Same j j' ((w ++ (code g ∷ [])) ++ v) w' (ns ++ ms) ns'
same_next t g a h u p o q r (rest_done a' h') = absurd (close_here t g a h a' h')
same_next t g {l = l} a h u p o q r (rest_next {l = l'} {b = b'} a' h' u' p' q') =
    let el : l' ≡ l = same_run a a' (sign_black (get_or t l 0) g h) (sign_black (get_or t l' 0) g h') in
    let x = one_group t g u p o q r (subst (λ (z : ℕ). While white t (z + 1) b') el u') p' q' in
    let y1 = x.1 in
    let y2 = x.2 in
    let y3 = x.3 in
    let y4 = x.4 in
    (x.0, cc, cc)

one_is : {t : List ℕ} {n : ℕ} {s : Sym} {d i j : ℕ} {w : List ℕ} {ns : List (List ℕ)} → Is t n s d i j w ns →
    Only t s i j w ns
one_is {t} (cp_name nm mk) = λ n' d' j' w' ns' r c c'. one_name t nm mk r c c'
one_is {t} (cp_choice q mk) = λ n' d' j' w' ns' r c c'. one_choice t (bracket_choice q) (one_is q) mk r c c'
one_is {t} (cp_seq q mk) = λ n' d' j' w' ns' r c c'. one_seq t (bracket_seq q) (one_is q) mk r c c'
one_is {t} (is_choice br de a p u h q) = (λ n' d' j' w' ns' r. same_choice t a p (one_is p) q (one_is q) r, λ n' d' j' w' ns' r. choice_not_seq t a p (one_is p) u h q r)
one_is {t} (is_seq br de a p q) = (λ n' d' j' w' ns' r. same_seq t a p (one_is p) q (one_is q) r, λ n' d' j' w' ns' r. seq_not_choice t a p (one_is p) q r)
one_is {t} (rest_done a h) = λ n' d' j' w' ns' r. same_done t a h r
one_is {t} (rest_next {g = g} a h u p q) = λ n' d' j' w' ns' r. same_next t g a h u p (one_is p) q (one_is q) r

-- a name and what follows it
same_name : (t : List ℕ) {n n' s b b' k k' : ℕ} → While white t s b → Name t n b k → inner (get_or t k 0) ≡ false →
    While white t s b' → Name t n' b' k' → inner (get_or t k' 0) ≡ false → (k' ≡ k) × (slice t b' k' ≡ slice t b k)
same_name t {b = b} {b' = b'} {k = k} {k' = k'} a nm o a' nm' o' =
    let eb : b' ≡ b = same_run a a' (start_black (get_or t b 0) nm.first) (start_black (get_or t b' 0) nm'.first) in
    let ek : k' ≡ k = same_run nm.later (subst (λ (x : ℕ). While inner t (x + 1) k') eb nm'.later) o o' in
    (ek, cc)

one_listed : (t : List ℕ) {n n' i j j' : ℕ} {v v' : List ℕ} {ms ms' : List (List ℕ)} → Listed t n i j v ms →
    Listed t n' i j' v' ms' → Same j j' v v' ms ms'
one_listed t (listed_done a h) (listed_done a' h') = (ap (λ (x : ℕ). x + 1) (same_run a a' (ap white h) (ap white h')), refl, refl)
one_listed t (listed_done a h) (listed_next a' h' u' nm' q') = absurd (close_here t Choice a' h' a h)
one_listed t (listed_next a h u nm q) (listed_done a' h') = absurd (close_here t Choice a h a' h')
one_listed t {n' = n'} {j' = j'} (listed_next {l = l} a h u nm q) (listed_next {l = l'} {b = b'} {v = v'} {ms = ms'} a' h' u' nm' q') =
    let el : l' ≡ l = same_run a a' (ap white h) (ap white h') in
    let x = same_name t u nm (listed_outside t q) (subst (λ (z : ℕ). While white t (z + 1) b') el u') nm' (listed_outside t q') in
    let y = one_listed t q (subst (λ (z : ℕ). Listed t n' z j' v' ms') x.0 q') in
    let y1 = x.1 in
    let y2 = y.1 in
    let y3 = y.2 in
    (y.0, cc, cc)

-- Mixed: where the sign behind #PCDATA stands
pcdata_end : (t : List ℕ) {s b b' l' : ℕ} → While white t s b → slice t b (b + 7) ≡ codes "#PCDATA" → While white t s b' →
    slice t b' (b' + 7) ≡ codes "#PCDATA" → While white t (b' + 7) l' → While white t (b + 7) l'
pcdata_end t {b = b} {b' = b'} {l' = l'} u p u' p' z' =
    let eb : b' ≡ b = same_run u u' (ap white (hash_byte t b p)) (ap white (hash_byte t b' p')) in
    subst (λ (x : ℕ). While white t (x + 7) l') eb z'

no_star_here : (t : List ℕ) {l l' i : ℕ} → While white t i l → get_or t l 0 ≡ 41 → While white t i l' → get_or t l' 0 ≡ 41 →
    get_or t (l' + 1) 0 ≡ 42 → Closed t (l + 1) → ⊥
no_star_here t {l = l} {l' = l'} a h a' h' s c =
    let el : l' ≡ l = same_run a a' (ap white h) (ap white h') in
    c.no_mark 5 (star_5 (ap (λ (x : ℕ). tok t (x + 1)) (sym el) ∙ tok_star t (l' + 1) s) refl)

one_mixed : (t : List ℕ) {n n' i j j' : ℕ} {w w' : List ℕ} {ns ns' : List (List ℕ)} → Mixed t n i j w ns →
    Mixed t n' i j' w' ns' → Closed t j → Closed t j' → Same j j' w w' ns ns'
one_mixed t (text_alone br u p z e) (text_alone br' u' p' z' e') c c' = (ap (λ (x : ℕ). x + 1) (same_run z (pcdata_end t u p u' p' z') (ap white e) (ap white e')), refl, refl)
one_mixed t (text_alone br u p z e) (text_star br' u' p' z' e' s') c c' = absurd (no_star_here t z e (pcdata_end t u p u' p' z') e' s' c)
one_mixed t (text_alone br u p z e) (text_names br' u' p' z' e' y' nm' q' s') c c' = absurd (close_here t Choice (pcdata_end t u p u' p' z') e' z e)
one_mixed t (text_star br u p z e s) (text_alone br' u' p' z' e') c c' = absurd (no_star_here t (pcdata_end t u p u' p' z') e' z e s c')
one_mixed t (text_star br u p z e s) (text_star br' u' p' z' e' s') c c' = (ap (λ (x : ℕ). x + 1 + 1) (same_run z (pcdata_end t u p u' p' z') (ap white e) (ap white e')), refl, refl)
one_mixed t (text_star br u p z e s) (text_names br' u' p' z' e' y' nm' q' s') c c' = absurd (close_here t Choice (pcdata_end t u p u' p' z') e' z e)
one_mixed t (text_names br u p z e y nm q s) (text_alone br' u' p' z' e') c c' = absurd (close_here t Choice z e (pcdata_end t u p u' p' z') e')
one_mixed t (text_names br u p z e y nm q s) (text_star br' u' p' z' e' s') c c' = absurd (close_here t Choice z e (pcdata_end t u p u' p' z') e')
one_mixed t {n' = n'} (text_names {l = l} br u p z e y nm q s) (text_names {l = l'} {x = x'} {j = j'} {v = v'} {ms = ms'} br' u' p' z' e' y' nm' q' s') c c' =
    let el : l' ≡ l = same_run z (pcdata_end t u p u' p' z') (ap white e) (ap white e') in
    let x = same_name t y nm (listed_outside t q) (subst (λ (a : ℕ). While white t (a + 1) x') el y') nm' (listed_outside t q') in
    let f = one_listed t q (subst (λ (a : ℕ). Listed t n' a j' v' ms') x.0 q') in
    let y1 = x.1 in
    let y2 = f.1 in
    let y3 = f.2 in
    (ap (λ (a : ℕ). a + 1) f.0, cc, cc)

bracket_mixed : {t : List ℕ} {n i j : ℕ} {w : List ℕ} {ns : List (List ℕ)} → Mixed t n i j w ns → get_or t i 0 ≡ 40
bracket_mixed (text_alone br u p z e) = br
bracket_mixed (text_star br u p z e s) = br
bracket_mixed (text_names br u p z e y nm q s) = br

-- where #PCDATA stands in a mixed model
mixed_pcdata : {t : List ℕ} {n i j : ℕ} {w : List ℕ} {ns : List (List ℕ)} → Mixed t n i j w ns →
    (b : ℕ) × While white t (i + 1) b × (slice t b (b + 7) ≡ codes "#PCDATA")
mixed_pcdata (text_alone {b = b} br u p z e) = (b, u, p)
mixed_pcdata (text_star {b = b} br u p z e s) = (b, u, p)
mixed_pcdata (text_names {b = b} br u p z e y nm q s) = (b, u, p)

-- a group of particles is no mixed model
not_mixed : (t : List ℕ) {n d i j : ℕ} {w : List ℕ} {ns : List (List ℕ)} → Head t d i → Mixed t n i j w ns → ⊥
not_mixed t h m =
    let x = mixed_pcdata m in
    let z : x.0 ≡ h.begin = same_run h.before x.1 h.black (ap white (hash_byte t x.0 x.2)) in
    no_pcdata h.part (ap (tok t) (sym z) ∙ pcdata_tok t x.0 x.2)

-- what begins with a bracket is not EMPTY
not_empty : (t : List ℕ) (i : ℕ) → slice t i (i + 5) ≡ codes "EMPTY" → get_or t i 0 ≡ 40 → ⊥
not_empty t i e h = no_bracket (empty_start t i e) h

one_spec : (t : List ℕ) {n n' d d' i j j' : ℕ} {w w' : List ℕ} {ns ns' : List (List ℕ)} → ContentSpec t n d i j w ns →
    ContentSpec t n' d' i j' w' ns' → Closed t j → Closed t j' → Same j j' w w' ns ns'
one_spec t (empty e) (empty e') c c' = (refl, refl, refl)
one_spec t {i = i} (empty e) (mixed m') c c' = absurd (not_empty t i e (bracket_mixed m'))
one_spec t {i = i} (empty e) (children_choice r' k') c c' = absurd (not_empty t i e (bracket_choice r'))
one_spec t {i = i} (empty e) (children_seq r' k') c c' = absurd (not_empty t i e (bracket_seq r'))
one_spec t {i = i} (mixed m) (empty e') c c' = absurd (not_empty t i e' (bracket_mixed m))
one_spec t (mixed m) (mixed m') c c' = one_mixed t m m' c c'
one_spec t (mixed m) (children_choice r' k') c c' = absurd (not_mixed t (head_choice r') m)
one_spec t (mixed m) (children_seq r' k') c c' = absurd (not_mixed t (head_seq r') m)
one_spec t {i = i} (children_choice r k) (empty e') c c' = absurd (not_empty t i e' (bracket_choice r))
one_spec t (children_choice r k) (mixed m') c c' = absurd (not_mixed t (head_choice r) m')
one_spec t (children_choice r k) (children_choice r' k') c c' = marked_same t ((one_is r).0 _ _ _ _ _ r') k k' c c'
one_spec t (children_choice r k) (children_seq r' k') c c' = absurd ((one_is r).1 _ _ _ _ _ r')
one_spec t {i = i} (children_seq r k) (empty e') c c' = absurd (not_empty t i e' (bracket_seq r))
one_spec t (children_seq r k) (mixed m') c c' = absurd (not_mixed t (head_seq r) m')
one_spec t (children_seq r k) (children_choice r' k') c c' = absurd ((one_is r).1 _ _ _ _ _ r')
one_spec t (children_seq r k) (children_seq r' k') c c' = marked_same t ((one_is r).0 _ _ _ _ _ r') k k' c c'

-- a content specification does not begin with white space
spec_black : (t : List ℕ) {n d i j : ℕ} {w : List ℕ} {ns : List (List ℕ)} → ContentSpec t n d i j w ns →
    white (get_or t i 0) ≡ false
spec_black t {i = i} (empty e) = start_black (get_or t i 0) (empty_start t i e)
spec_black t (mixed m) = ap white (bracket_mixed m)
spec_black t (children_choice r k) = ap white (bracket_choice r)
spec_black t (children_seq r k) = ap white (bracket_seq r)

pub one_reading : (t : List ℕ) (n d n' d' : ℕ) (w w' : List ℕ) (ns ns' : List (List ℕ)) → Model t n d w ns →
    Model t n' d' w' ns' → (w' ≡ w) × (ns' ≡ ns)
one_reading t n d n' d' w w' ns ns' m m' =
    let e : m'.from ≡ m.from = same_run m.before m'.before (spec_black t m.spec) (spec_black t m'.spec) in
    let x = one_spec t m.spec (subst (λ (i : ℕ). ContentSpec t n' d' i m'.to w' ns') e m'.spec) (after_white t m.after (at_end t)) (after_white t m'.after (at_end t)) in
    (x.1, x.2)
