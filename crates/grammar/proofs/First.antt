-- What stands before a refused token begins a content specification. Assumes nothing.
use Rattle.std.proofs.Common.{◌≡◌, ℕ, ◌+◌, ◌-◌, ◌<◌, ◌≤◌, Bool, true, ◌⊎◌, List, [], ◌∷◌, ◌++◌, length, get_or, take, drop, codes, sym, refl, ap, ◌∙◌, subst, inl, inr, ⊎_elim, append_assoc, arith, length-append, length-drop, length-take-le}
use Rattle.std.proofs.lemmas.List.{get_or-take, get_or_at, get_or_append_left, drop-append-le, take-append-le, take-take, drop-take, append-nil, drop_at, take_all}
use Rattle.std.proofs.str.Laws.{order}
use Rattle.symbols.specs.Rule.{start, inner}
use Rattle.tokens.specs.Bytes.{white}
use Rattle.tokens.specs.Tokens.{word, pcdata, opens, closes, bar, query, star, plus, tok, While, stop, on, Longest, slice, pcdata_at}
use Rattle.tokens.proofs.Runs.{while_le, same_run, run_inside}
use Rattle.tokens.proofs.Signs.{byte_inside, tok_says}
use Rattle.grammar.specs.declared.Chain.{Chain}
use Rattle.grammar.specs.declared.Chain.TheVariants.{Choice, Seq}
use Rattle.grammar.specs.Grammar.{sign, code, Name, MarkOf, Marks, unmarked, with_mark, Sym, cp, choice, seq, rest, Is, cp_name, cp_choice, cp_seq, is_choice, is_seq, rest_done, rest_next, Listed, listed_done, listed_next, Mixed, text_alone, text_star, text_names, ContentSpec, empty, mixed, children_choice, children_seq}
use Rattle.grammar.specs.Reads.{Cause, joins, query_4, star_5, plus_6, Mark, none, one, Outcome, good, bad, after, Part, particle, body, onward, named, listed, Reads, p_name, p_long, p_many, p_deep, p_group, p_group_bad, p_none, b_bad, b_goes_on, o_done, o_bad, o_next, o_none, n_name, n_long, n_many, n_none, l_done, l_bad, l_next, l_none, Mixes, x_text, x_star, x_none, x_name_bad, x_list_bad, x_names, x_no_star, Opens, c_empty, c_word, c_none, c_mixed, c_children, c_bad, Whole, w_bad, w_left}
use Rattle.grammar.proofs.Tokens.{joined, slice_at, pcdata_slice, start_inside}
use Rattle.grammar.specs.Refusals.{Begun}
use Rattle.grammar.proofs.Sound.{sound, sound_open, Stands, Spec}

-- a text with the same bytes up to k
pub record Front (t t' : List ℕ) (k : ℕ) : Type 0 where
  pub same : (m : ℕ) → m < k → get_or t' m 0 ≡ get_or t m 0
  pub piece : (i j : ℕ) → i ≤ j → j ≤ k → slice t' i j ≡ slice t i j

front_of : (t z : List ℕ) (k : ℕ) → k ≤ length t → Front t (take k t ++ z) k
front_of t z k h =
    let long : length (take k t) ≡ k = length-take-le k t h in
    record {
      same = λ m l. let n : m < length (take k t) = omega arith in get_or_append_left (take k t) z 0 m n ∙ get_or-take k t m 0 l;
      piece = λ i j a b. go i j a b long;
    }
  where
    go : (i j : ℕ) → i ≤ j → j ≤ k → length (take k t) ≡ k → slice (take k t ++ z) i j ≡ slice t i j
    go i j a b long =
        let one' : drop i (take k t ++ z) ≡ drop i (take k t) ++ z = drop-append-le i (take k t) z (omega arith) in
        let whole : k ≡ i + (k - i) = omega arith in
        let two : drop i (take k t) ≡ take (k - i) (drop i t) = ap (λ (x : ℕ). drop i (take x t)) whole ∙ drop-take i (k - i) t in
        let fits : j - i ≤ length (drop i (take k t)) = omega (arith, length-drop i (take k t)) in
        ap (take (j - i)) one' ∙ take-append-le (j - i) (drop i (take k t)) z fits ∙ ap (take (j - i)) two ∙ take-take (j - i) (k - i) (drop i t) (omega arith)

pub while_move : {p : ℕ → Bool} {t t' : List ℕ} {k i j : ℕ} → Front t t' k → While p t i j → j ≤ k → While p t' i j
while_move f stop h = stop
while_move {p} f (on {i = i} e r) h = on (ap p (f.same i (omega (arith, while_le r))) ∙ e) (while_move f r h)

marks_le : {t : List ℕ} {i j : ℕ} {m : List ℕ} → Marks t i j m → i ≤ j
marks_le unmarked = omega arith
marks_le (with_mark h) = omega arith

marks_move : {t t' : List ℕ} {k i j : ℕ} {m : List ℕ} → Front t t' k → Marks t i j m → j ≤ k → Marks t' i j m
marks_move f unmarked h = unmarked
marks_move f (with_mark {i = i} {m = m} x) h = with_mark (subst (λ (b : ℕ). MarkOf b m) (sym (f.same i (omega arith))) x)

name_le : {t : List ℕ} {n i q : ℕ} → Name t n i q → i < q
name_le nm = omega (arith, while_le nm.later)

name_move : {t t' : List ℕ} {n k i q : ℕ} → Front t t' k → Name t n i q → q ≤ k → Name t' n i q
name_move {i = i} f nm h = record { first = ap start (f.same i (omega (arith, name_le nm))) ∙ nm.first; later = while_move f nm.later h; short = nm.short }

is_on : {t : List ℕ} {n : ℕ} {s : Sym} {d i j : ℕ} {w : List ℕ} {ns : List (List ℕ)} → Is t n s d i j w ns → i < j
is_on (cp_name nm m) = omega (arith, name_le nm, marks_le m)
is_on (cp_choice r m) = omega (arith, is_on r, marks_le m)
is_on (cp_seq r m) = omega (arith, is_on r, marks_le m)
is_on (is_choice br de a p u e q) = omega (arith, while_le a, is_on p, is_on q)
is_on (is_seq br de a p q) = omega (arith, while_le a, is_on p, is_on q)
is_on (rest_done a e) = omega (arith, while_le a)
is_on (rest_next a e u p q) = omega (arith, while_le a, while_le u, is_on p, is_on q)

-- the bar of a choice stands before its end
choice_in : {t : List ℕ} {n d k l j : ℕ} {v : List ℕ} {ms : List (List ℕ)} → Is t n (rest Choice) d k j v ms →
    While white t k l → get_or t l 0 ≡ 124 → l < j
choice_in (rest_done {l = y} a e) u h = let z : y ≡ _ = same_run u a (ap white h) (ap white e) in omega arith
choice_in (rest_next {l = y} a e x p q) u h = let z : y ≡ _ = same_run u a (ap white h) (ap white e) in omega (arith, while_le x, is_on p, is_on q)

-- what is read in one text is read in the other
is_move : {t t' : List ℕ} {n k : ℕ} {s : Sym} {d i j : ℕ} {w : List ℕ} {ns : List (List ℕ)} → Front t t' k →
    Is t n s d i j w ns → j ≤ k → Is t' n s d i j w ns
is_move {t} {t'} {n} {k} {s} {d} f (cp_name {i = i} {k = q} {j = j} {m = m} nm mk) h =
    let l : q ≤ k = omega (arith, marks_le mk) in
    let o : i ≤ q = omega (arith, name_le nm) in
    subst (λ (x : List ℕ). Is t' n cp d i j (1 ∷ m) (x ∷ [])) (f.piece i q o l) (cp_name (name_move f nm l) (marks_move f mk h))
is_move f (cp_choice r m) h = cp_choice (is_move f r (omega (arith, marks_le m))) (marks_move f m h)
is_move f (cp_seq r m) h = cp_seq (is_move f r (omega (arith, marks_le m))) (marks_move f m h)
is_move f (is_choice {i = i} {l = l} br de a p u e q) h =
    let x = is_on p in
    let y = is_on q in
    let z = while_le a in
    let bar_in : l < _ = choice_in q u e in
    is_choice (f.same i (omega arith) ∙ br) de (while_move f a (omega arith)) (is_move f p (omega arith)) (while_move f u (omega arith)) (f.same l (omega arith) ∙ e) (is_move f q h)
is_move f (is_seq {i = i} br de a p q) h =
    let x = is_on p in
    let y = is_on q in
    let z = while_le a in
    is_seq (f.same i (omega arith) ∙ br) de (while_move f a (omega arith)) (is_move f p (omega arith)) (is_move f q h)
is_move f (rest_done {l = l} a e) h = rest_done (while_move f a (omega arith)) (f.same l (omega arith) ∙ e)
is_move f (rest_next {l = l} a e u p q) h =
    let x = is_on p in
    let y = is_on q in
    let z = while_le u in
    rest_next (while_move f a (omega arith)) (f.same l (omega arith) ∙ e) (while_move f u (omega arith)) (is_move f p (omega arith)) (is_move f q h)

-- a byte right behind what was added
at_here : (t u v : List ℕ) (k b : ℕ) → k ≤ length t → get_or (take k t ++ (u ++ (b ∷ v))) (k + length u) 0 ≡ b
at_here t u v k b h =
    let long : length (take k t) ≡ k = length-take-le k t h in
    ap (λ (l : List ℕ). get_or l (k + length u) 0) (sym (append_assoc (take k t) u (b ∷ v))) ∙ get_or_at (take k t ++ u) b v 0 (k + length u) (length-append (take k t) u ∙ ap (λ (x : ℕ). x + length u) long)

at_first : (t v : List ℕ) (k b : ℕ) → k ≤ length t → get_or (take k t ++ (b ∷ v)) k 0 ≡ b
at_first t v k b h = get_or_at (take k t) b v 0 k (length-take-le k t h)

-- what each part is by the productions, from i up to j
abbrev pub Done : List ℕ → Part → ℕ → ℕ → ℕ → Type 0
Done t particle e i j = (b : ℕ) × (w : List ℕ) × (ns : List (List ℕ)) × While white t i b × Is t 32 cp e b j w ns
Done t body e i j = (x : ℕ) → i ≡ x + 1 → get_or t x 0 ≡ 40 → (w : List ℕ) × (ns : List (List ℕ)) × (Is t 32 choice (e + 1) x j w ns ⊎ Is t 32 seq (e + 1) x j w ns)
Done t (onward g) e i j = (w : List ℕ) × (ns : List (List ℕ)) × Is t 32 (rest g) e i j w ns
Done t named e i j = (b : ℕ) × While white t i b × Name t 32 b j
Done t listed e i j = (w : List ℕ) × (ns : List (List ℕ)) × Listed t 32 i j w ns

-- with a word in place of the refused token, the part ends
pub record Ends (t : List ℕ) (s : Part) (e i k : ℕ) : Type 0 where
  pub word' : List ℕ
  pub on' : i ≤ k
  pub inside : k ≤ length t
  pub done : (v : List ℕ) → Done (take k t ++ (word' ++ v)) s e i (k + length word')

-- what is read stands inside the text and goes on; what is refused could have ended with another token there
abbrev pub Viable : List ℕ → Part → ℕ → ℕ → Outcome → Type 0
Viable t s e i (good j w ns) = i ≤ length t → (i < j) × (j ≤ length t)
Viable t s e i (bad f k) = i ≤ length t → Ends t s e i k

pub word_in : (t : List ℕ) (b : ℕ) → tok t b ≡ word → b < length t
word_in t b s = start_inside t b (tok_says t b word s)

pub mark_in : (t : List ℕ) {i j : ℕ} {m : List ℕ} → Mark t i j m → i ≤ length t → (i ≤ j) × (j ≤ length t)
mark_in t (none _) h = (omega arith, h)
mark_in t {i} (one (query_4 e _)) h = (omega arith, omega (arith, byte_inside t i 63 (tok_says t i query e) (omega arith)))
mark_in t {i} (one (star_5 e _)) h = (omega arith, omega (arith, byte_inside t i 42 (tok_says t i star e) (omega arith)))
mark_in t {i} (one (plus_6 e _)) h = (omega arith, omega (arith, byte_inside t i 43 (tok_says t i plus e) (omega arith)))

-- a name in place of the token at b
name_here : (t v : List ℕ) (b : ℕ) → b ≤ length t → Name (take b t ++ (97 ∷ v)) 32 b (b + 1)
name_here t v b h = record { first = ap start (at_first t v b 97 h); later = stop; short = omega arith }

part_here : (t : List ℕ) (e i b : ℕ) → Longest white t i b → i ≤ length t → Ends t particle e i b
part_here t e i b a h =
    let inside' : b ≤ length t = run_inside white t refl a.run h in
    record {
      word' = 97 ∷ [];
      on' = while_le a.run;
      inside = inside';
      done = λ v. (b, 1 ∷ [], slice (take b t ++ (97 ∷ v)) b (b + 1) ∷ [], while_move (front_of t (97 ∷ v) b inside') a.run (omega arith), cp_name (name_here t v b inside') unmarked);
    }

named_here : (t : List ℕ) (e i b : ℕ) → Longest white t i b → i ≤ length t → Ends t named e i b
named_here t e i b a h =
    let inside' : b ≤ length t = run_inside white t refl a.run h in
    record {
      word' = 97 ∷ [];
      on' = while_le a.run;
      inside = inside';
      done = λ v. (b, while_move (front_of t (97 ∷ v) b inside') a.run (omega arith), name_here t v b inside');
    }

-- a bracket in place of the token at l
rest_here : (t : List ℕ) (g : Chain) (e i l : ℕ) → Longest white t i l → i ≤ length t → Ends t (onward g) e i l
rest_here t g e i l a h =
    let inside' : l ≤ length t = run_inside white t refl a.run h in
    record {
      word' = 41 ∷ [];
      on' = while_le a.run;
      inside = inside';
      done = λ v. ([], [], rest_done (while_move (front_of t (41 ∷ v) l inside') a.run (omega arith)) (at_first t v l 41 inside'));
    }

listed_here : (t : List ℕ) (e i l : ℕ) → Longest white t i l → i ≤ length t → Ends t listed e i l
listed_here t e i l a h =
    let inside' : l ≤ length t = run_inside white t refl a.run h in
    record {
      word' = 41 ∷ [];
      on' = while_le a.run;
      inside = inside';
      done = λ v. ([], [], listed_done (while_move (front_of t (41 ∷ v) l inside') a.run (omega arith)) (at_first t v l 41 inside'));
    }

-- one byte more
longer : (k : ℕ) (u : List ℕ) (b : ℕ) → k + length u + 1 ≡ k + length (u ++ (b ∷ []))
longer k u b = omega (arith, length-append u (b ∷ []))

more_text : (t u v : List ℕ) (k b : ℕ) → take k t ++ (u ++ (b ∷ v)) ≡ take k t ++ ((u ++ (b ∷ [])) ++ v)
more_text t u v k b = ap (λ (l : List ℕ). take k t ++ l) (sym (append_assoc u (b ∷ []) v))

grouped : (t : List ℕ) (e x i b j : ℕ) (w : List ℕ) (ns : List (List ℕ)) → While white t i b → e ≡ x + 1 →
    Is t 32 choice (x + 1) b j w ns ⊎ Is t 32 seq (x + 1) b j w ns → Done t particle e i j
grouped t e x i b j w ns a ex (inl r) = (b, w ++ [], ns, a, cp_choice (subst (λ (y : ℕ). Is t 32 choice y b j w ns) (sym ex) r) unmarked)
grouped t e x i b j w ns a ex (inr r) = (b, w ++ [], ns, a, cp_seq (subst (λ (y : ℕ). Is t 32 seq y b j w ns) (sym ex) r) unmarked)

-- a first part and a rest: a choice, or a sequence
joined_body : (t : List ℕ) (e x b k j : ℕ) (w v : List ℕ) (ns ms : List (List ℕ)) (g : Chain) → get_or t x 0 ≡ 40 →
    While white t (x + 1) b → Is t 32 cp e b k w ns → Is t 32 (rest g) e k j v ms →
    (w' : List ℕ) × (ns' : List (List ℕ)) × (Is t 32 choice (e + 1) x j w' ns' ⊎ Is t 32 seq (e + 1) x j w' ns')
joined_body t e x b k j w v ns ms Seq br a p q = (w ++ v, ns ++ ms, inr (is_seq br refl a p q))
joined_body t e x b k j w v ns ms Choice br a p (rest_done u h) = (w ++ [], ns ++ [], inr (is_seq br refl a p (rest_done u h)))
joined_body t e x b k j w v ns ms Choice br a p (rest_next {w = y} {v = z} {ns = c} {ms = d} u h o r q) = (w ++ ((y ++ (3 ∷ [])) ++ z), ns ++ (c ++ d), inl (is_choice br refl a p u h (rest_next u h o r q)))

group_ends : (t : List ℕ) (e x i b k : ℕ) → Longest white t i b → tok t b ≡ opens → e ≡ x + 1 → Ends t body x (b + 1) k →
    Ends t particle e i k
group_ends t e x i b k a s ex r =
    let l = while_le a.run in
    let o = r.on' in
    record {
      word' = r.word';
      on' = omega arith;
      inside = r.inside;
      done = λ v.
          let f = front_of t (r.word' ++ v) k r.inside in
          let z = r.done v b refl (f.same b (omega arith) ∙ tok_says t b opens s) in
          grouped (take k t ++ (r.word' ++ v)) e x i b (k + length r.word') z.0 z.1 (while_move f a.run (omega arith)) ex z.2;
    }

body_first : (t : List ℕ) (e i k : ℕ) → Ends t particle e i k → Ends t body e i k
body_first t e i k r =
    let u = r.word' in
    record {
      word' = u ++ (41 ∷ []);
      on' = r.on';
      inside = r.inside;
      done = λ v.
          subst (λ (z : List ℕ). Done z body e i (k + length (u ++ (41 ∷ [])))) (more_text t u v k 41)
          (subst (λ (j : ℕ). Done (take k t ++ (u ++ (41 ∷ v))) body e i j) (longer k u 41)
          (λ x ix br.
          let d = r.done (41 ∷ v) in
          joined_body (take k t ++ (u ++ (41 ∷ v))) e x d.0 (k + length u) (k + length u + 1) d.1 [] d.2 [] Seq br (subst (λ (y : ℕ). While white (take k t ++ (u ++ (41 ∷ v))) y d.0) ix d.3) d.4 (rest_done stop (at_here t u v k 41 r.inside))));
    }

body_rest : (t : List ℕ) (e i k q : ℕ) (w : List ℕ) (ns : List (List ℕ)) (g : Chain) →
    Stands t particle e i (good q w ns) → i < q → Ends t (onward g) e q k → Ends t body e i k
body_rest t e i k q w ns g p h r =
    let o = r.on' in
    record {
      word' = r.word';
      on' = omega arith;
      inside = r.inside;
      done = λ v.
          let f = front_of t (r.word' ++ v) k r.inside in
          let d = r.done v in
          let t' = take k t ++ (r.word' ++ v) in
          let l : p.0 ≤ k = omega (arith, is_on p.2) in
          λ x ix br. joined_body t' e x p.0 q (k + length r.word') w d.0 ns d.1 g br (subst (λ (y : ℕ). While white t' y p.0) ix (while_move f p.1 l)) (is_move f p.2 o) d.2;
    }

rest_part : (t : List ℕ) (g : Chain) (e i l k : ℕ) → Longest white t i l → get_or t l 0 ≡ sign g →
    Ends t particle e (l + 1) k → Ends t (onward g) e i k
rest_part t g e i l k a s r =
    let u = r.word' in
    let o = r.on' in
    let y = while_le a.run in
    record {
      word' = u ++ (41 ∷ []);
      on' = omega arith;
      inside = r.inside;
      done = λ v.
          let f = front_of t (u ++ (41 ∷ v)) k r.inside in
          let d = r.done (41 ∷ v) in
          subst (λ (z : List ℕ). Done z (onward g) e i (k + length (u ++ (41 ∷ [])))) (more_text t u v k 41)
          (subst (λ (j : ℕ). Done (take k t ++ (u ++ (41 ∷ v))) (onward g) e i j) (longer k u 41)
          ((d.1 ++ (code g ∷ [])) ++ [], d.2 ++ [], rest_next (while_move f a.run (omega arith)) (f.same l (omega arith) ∙ s) d.3 d.4 (rest_done stop (at_here t u v k 41 r.inside))));
    }

rest_rest : (t : List ℕ) (g : Chain) (e i l k q : ℕ) (w : List ℕ) (ns : List (List ℕ)) → Longest white t i l →
    get_or t l 0 ≡ sign g → Stands t particle e (l + 1) (good q w ns) → l + 1 < q → Ends t (onward g) e q k →
    Ends t (onward g) e i k
rest_rest t g e i l k q w ns a s p h r =
    let o = r.on' in
    let y = while_le a.run in
    record {
      word' = r.word';
      on' = omega arith;
      inside = r.inside;
      done = λ v.
          let f = front_of t (r.word' ++ v) k r.inside in
          let d = r.done v in
          let c : p.0 ≤ k = omega (arith, is_on p.2) in
          ((w ++ (code g ∷ [])) ++ d.0, ns ++ d.1, rest_next (while_move f a.run (omega arith)) (f.same l (omega arith) ∙ s) (while_move f p.1 c) (is_move f p.2 o) d.2);
    }

list_name : (t : List ℕ) (e i l k : ℕ) → Longest white t i l → get_or t l 0 ≡ 124 → Ends t named e (l + 1) k →
    Ends t listed e i k
list_name t e i l k a s r =
    let u = r.word' in
    let o = r.on' in
    let y = while_le a.run in
    record {
      word' = u ++ (41 ∷ []);
      on' = omega arith;
      inside = r.inside;
      done = λ v.
          let f = front_of t (u ++ (41 ∷ v)) k r.inside in
          let d = r.done (41 ∷ v) in
          subst (λ (z : List ℕ). Done z listed e i (k + length (u ++ (41 ∷ [])))) (more_text t u v k 41)
          (subst (λ (j : ℕ). Done (take k t ++ (u ++ (41 ∷ v))) listed e i j) (longer k u 41)
          (1 ∷ (3 ∷ []), slice (take k t ++ (u ++ (41 ∷ v))) d.0 (k + length u) ∷ [], listed_next (while_move f a.run (omega arith)) (f.same l (omega arith) ∙ s) d.1 d.2 (listed_done stop (at_here t u v k 41 r.inside))));
    }

list_rest : (t : List ℕ) (e i l k q : ℕ) (w : List ℕ) (ns : List (List ℕ)) → Longest white t i l → get_or t l 0 ≡ 124 →
    Stands t named e (l + 1) (good q w ns) → l + 1 < q → Ends t listed e q k → Ends t listed e i k
list_rest t e i l k q w ns a s p h r =
    let o = r.on' in
    let y = while_le a.run in
    record {
      word' = r.word';
      on' = omega arith;
      inside = r.inside;
      done = λ v.
          let f = front_of t (r.word' ++ v) k r.inside in
          let d = r.done v in
          let c : p.0 ≤ k = omega (arith, name_le p.2) in
          (1 ∷ (3 ∷ d.0), slice (take k t ++ (r.word' ++ v)) p.0 q ∷ d.1, listed_next (while_move f a.run (omega arith)) (f.same l (omega arith) ∙ s) (while_move f p.1 c) (name_move f p.2 o) d.2);
    }

body_after : (t : List ℕ) (e i q : ℕ) (w : List ℕ) (ns : List (List ℕ)) (g : Chain) (o : Outcome) →
    Stands t particle e i (good q w ns) → Viable t particle e i (good q w ns) → Viable t (onward g) e q o →
    Viable t body e i (after w ns o)
body_after t e i q w ns g (good j v ms) p a r = λ h. let x = a h in let y = r x.1 in (omega (arith, x.0, y.0), y.1)
body_after t e i q w ns g (bad f k) p a r = λ h. let x = a h in body_rest t e i k q w ns g p x.0 (r x.1)

rest_after : (t : List ℕ) (g : Chain) (e i l q : ℕ) (w : List ℕ) (ns : List (List ℕ)) (o : Outcome) →
    Longest white t i l → get_or t l 0 ≡ sign g → l < length t → Stands t particle e (l + 1) (good q w ns) →
    Viable t particle e (l + 1) (good q w ns) → Viable t (onward g) e q o →
    Viable t (onward g) e i (after (w ++ (code g ∷ [])) ns o)
rest_after t g e i l q w ns (good j v ms) b s n p a r = λ h. let x = a (omega arith) in let y = r x.1 in (omega (arith, x.0, y.0, while_le b.run), y.1)
rest_after t g e i l q w ns (bad f k) b s n p a r = λ h. let x = a (omega arith) in rest_rest t g e i l k q w ns b s p x.0 (r x.1)

list_after : (t : List ℕ) (e i l q : ℕ) (w : List ℕ) (ns : List (List ℕ)) (o : Outcome) → Longest white t i l →
    get_or t l 0 ≡ 124 → l < length t → Stands t named e (l + 1) (good q w ns) → Viable t named e (l + 1) (good q w ns) →
    Viable t listed e q o → Viable t listed e i (after (w ++ (3 ∷ [])) ns o)
list_after t e i l q w ns (good j v ms) b s n p a r = λ h. let x = a (omega arith) in let y = r x.1 in (omega (arith, x.0, y.0, while_le b.run), y.1)
list_after t e i l q w ns (bad f k) b s n p a r = λ h. let x = a (omega arith) in list_rest t e i l k q w ns b s p x.0 (r x.1)

pub sign_byte : (t : List ℕ) (l : ℕ) (g : Chain) → joins g (tok t l) ≡ true → (get_or t l 0 ≡ sign g) × (l < length t)
sign_byte t l Choice e = let b = joined Choice (tok t l) (get_or t l 0) (pcdata_at t l) e (tok_says t l (tok t l) refl) in (b, byte_inside t l 124 b (omega arith))
sign_byte t l Seq e = let b = joined Seq (tok t l) (get_or t l 0) (pcdata_at t l) e (tok_says t l (tok t l) refl) in (b, byte_inside t l 44 b (omega arith))

close_in : (t : List ℕ) (i l : ℕ) → Longest white t i l → tok t l ≡ closes → (i < l + 1) × (l + 1 ≤ length t)
close_in t i l a s = (omega (arith, while_le a.run), omega (arith, byte_inside t l 41 (tok_says t l closes s) (omega arith)))

pub bar_in : (t : List ℕ) (l : ℕ) → tok t l ≡ bar → l < length t
bar_in t l s = byte_inside t l 124 (tok_says t l bar s) (omega arith)

pub name_in : (t : List ℕ) (i b k : ℕ) → Longest white t i b → tok t b ≡ word → Longest inner t (b + 1) k →
    (i < k) × (k ≤ length t)
name_in t i b k a s r = (omega (arith, while_le a.run, while_le r.run), run_inside inner t refl r.run (omega (arith, word_in t b s)))

pub viable : {t : List ℕ} {s : Part} {e i c : ℕ} {o : Outcome} → Reads t s e i c o → Viable t s e i o
viable {t} {s} {e} {i} (p_name {b = b} {k = k} a s' r h z m) = λ l. let x = name_in t i b k a s' r in let y = mark_in t m x.1 in (omega (arith, x.0, y.0), y.1)
viable {t} {s} {e} {i} (p_long {b = b} a s' r h) = λ l. part_here t e i b a l
viable {t} {s} {e} {i} (p_many {b = b} a s' r h z) = λ l. part_here t e i b a l
viable {t} {s} {e} {i} (p_deep {b = b} a s' h) = λ l. part_here t e i b a l
viable {t} {s} {e} {i} (p_group {b = b} a s' h r m) =
    λ l.
    let x = viable r (omega (arith, byte_inside t b 40 (tok_says t b opens s') (omega arith))) in
    let y = mark_in t m x.1 in
    (omega (arith, x.0, y.0, while_le a.run), y.1)
viable {t} {s} {e} {i} (p_group_bad {x = x} {b = b} {k = k} a s' h r) = λ l. group_ends t e x i b k a s' h (viable r (omega (arith, byte_inside t b 40 (tok_says t b opens s') (omega arith))))
viable {t} {s} {e} {i} (p_none {b = b} a x y) = λ l. part_here t e i b a l
viable {t} {s} {e} {i} (b_bad {k = k} r) = λ l. body_first t e i k (viable r l)
viable {t} {s} {e} {i} (b_goes_on {k = q} {w = w} {ns = ns} {g = g} {o = o} r u h x z) = body_after t e i q w ns g o (sound r) (viable r) (viable z)
viable {t} {s} {e} {i} (o_done {l = l} a s') = λ h. close_in t i l a s'
viable {t} {s} {e} {i} (o_bad {g = g} {l = l} {k = k} a s' r) = λ h. let x = sign_byte t l g s' in rest_part t g e i l k a x.0 (viable r (omega (arith, x.1)))
viable {t} {s} {e} {i} (o_next {g = g} {l = l} {k = q} {w = w} {ns = ns} {o = o} a s' r x z) = let y = sign_byte t l g s' in rest_after t g e i l q w ns o a y.0 y.1 (sound r) (viable r) (viable z)
viable {t} {s} {e} {i} (o_none {g = g} {l = l} a x y) = λ h. rest_here t g e i l a h
viable {t} {s} {e} {i} (n_name {b = b} {k = k} a s' r h z) = λ l. name_in t i b k a s' r
viable {t} {s} {e} {i} (n_long {b = b} a s' r h) = λ l. named_here t e i b a l
viable {t} {s} {e} {i} (n_many {b = b} a s' r h z) = λ l. named_here t e i b a l
viable {t} {s} {e} {i} (n_none {b = b} a x) = λ l. named_here t e i b a l
viable {t} {s} {e} {i} (l_done {l = l} a s') = λ h. close_in t i l a s'
viable {t} {s} {e} {i} (l_bad {l = l} {k = k} a s' r) = λ h. list_name t e i l k a (tok_says t l bar s') (viable r (omega (arith, bar_in t l s')))
viable {t} {s} {e} {i} (l_next {l = l} {k = q} {w = w} {ns = ns} {o = o} a s' r x z) = list_after t e i l q w ns o a (tok_says t l bar s') (bar_in t l s') (sound r) (viable r) (viable z)
viable {t} {s} {e} {i} (l_none {l = l} a x y) = λ h. listed_here t e i l a h

-- moves of the other productions
listed_on : {t : List ℕ} {n i j : ℕ} {v : List ℕ} {ms : List (List ℕ)} → Listed t n i j v ms → i < j
listed_on (listed_done a e) = omega (arith, while_le a)
listed_on (listed_next a e u nm q) = omega (arith, while_le a, while_le u, name_le nm, listed_on q)

listed_move : {t t' : List ℕ} {n k i j : ℕ} {v : List ℕ} {ms : List (List ℕ)} → Front t t' k → Listed t n i j v ms →
    j ≤ k → Listed t' n i j v ms
listed_move f (listed_done {l = l} a e) h = listed_done (while_move f a (omega arith)) (f.same l (omega arith) ∙ e)
listed_move {t} {t'} {n} {k} {i} {j} f (listed_next {l = l} {b = b} {k = q} {v = v} {ms = ms} a e u nm r) h =
    let x = name_le nm in
    let y = listed_on r in
    let z = while_le u in
    let o : b ≤ q = omega arith in
    let c : q ≤ k = omega arith in
    subst (λ (d : List ℕ). Listed t' n i j (1 ∷ (3 ∷ v)) (d ∷ ms)) (f.piece b q o c) (listed_next (while_move f a (omega arith)) (f.same l (omega arith) ∙ e) (while_move f u (omega arith)) (name_move f nm c) (listed_move f r h))

mixed_move : {t t' : List ℕ} {n k i j : ℕ} {w : List ℕ} {ns : List (List ℕ)} → Front t t' k → Mixed t n i j w ns → j ≤ k →
    Mixed t' n i j w ns
mixed_move f (text_alone {i = i} {b = b} {l = l} br u p z e) h =
    let x = while_le u in
    let y = while_le z in
    text_alone (f.same i (omega arith) ∙ br) (while_move f u (omega arith)) (f.piece b (b + 7) (omega arith) (omega arith) ∙ p) (while_move f z (omega arith)) (f.same l (omega arith) ∙ e)
mixed_move f (text_star {i = i} {b = b} {l = l} br u p z e s) h =
    let x = while_le u in
    let y = while_le z in
    text_star (f.same i (omega arith) ∙ br) (while_move f u (omega arith)) (f.piece b (b + 7) (omega arith) (omega arith) ∙ p) (while_move f z (omega arith)) (f.same l (omega arith) ∙ e) (f.same (l + 1) (omega arith) ∙ s)
mixed_move {t} {t'} {n} {k} f (text_names {i = i} {b = b} {l = l} {x = x} {k = q} {j = j} {v = v} {ms = ms} br u p z e y nm r s) h =
    let c1 = while_le u in
    let c2 = while_le z in
    let c3 = while_le y in
    let c4 = name_le nm in
    let c5 = listed_on r in
    let o : x ≤ q = omega arith in
    let c : q ≤ k = omega arith in
    subst (λ (d : List ℕ). Mixed t' n i (j + 1) ((1 ∷ v) ++ (5 ∷ [])) (d ∷ ms)) (f.piece x q o c)
    (text_names (f.same i (omega arith) ∙ br) (while_move f u (omega arith)) (f.piece b (b + 7) (omega arith) (omega arith) ∙ p) (while_move f z (omega arith)) (f.same l (omega arith) ∙ e) (while_move f y (omega arith)) (name_move f nm c) (listed_move f r (omega arith)) (f.same j (omega arith) ∙ s))

spec_move : {t t' : List ℕ} {n d k i j : ℕ} {w : List ℕ} {ns : List (List ℕ)} → Front t t' k →
    ContentSpec t n d i j w ns → j ≤ k → ContentSpec t' n d i j w ns
spec_move f (empty {i = i} e) h = empty (f.piece i (i + 5) (omega arith) h ∙ e)
spec_move f (mixed m) h = mixed (mixed_move f m h)
spec_move f (children_choice r m) h = children_choice (is_move f r (omega (arith, marks_le m))) (marks_move f m h)
spec_move f (children_seq r m) h = children_seq (is_move f r (omega (arith, marks_le m))) (marks_move f m h)

-- Mixed, behind #PCDATA: from i on, what stands before the cut, and a word
pub record MixEnds (t : List ℕ) (i k : ℕ) : Type 0 where
  pub cut : ℕ
  pub blank : While white t cut k
  pub on' : i ≤ cut
  pub inside : cut ≤ length t
  pub word' : List ℕ
  pub done : (x b : ℕ) → get_or (take cut t ++ word') b 0 ≡ 40 → While white (take cut t ++ word') (b + 1) x →
      slice (take cut t ++ word') x (x + 7) ≡ codes "#PCDATA" → i ≡ x + 7 →
      (w : List ℕ) × (ns : List (List ℕ)) × Mixed (take cut t ++ word') 32 b (cut + length word') w ns

from_here : (t : List ℕ) {i l : ℕ} (y : ℕ) → i ≡ y → While white t i l → While white t y l
from_here t {i} {l} y e r = subst (λ (x : ℕ). While white t x l) e r

mix_here : (t : List ℕ) (i l : ℕ) → Longest white t i l → i ≤ length t → MixEnds t i l
mix_here t i l a h =
    let inside' : l ≤ length t = run_inside white t refl a.run h in
    record {
      cut = l;
      blank = stop;
      on' = while_le a.run;
      inside = inside';
      word' = 41 ∷ [];
      done = λ x b br u p e. (0 ∷ [], [], text_alone br u p (from_here (take l t ++ (41 ∷ [])) (x + 7) e (while_move (front_of t (41 ∷ []) l inside') a.run (omega arith))) (at_first t [] l 41 inside'));
    }

mix_name : (t : List ℕ) (i l k : ℕ) → Longest white t i l → tok t l ≡ bar → Ends t named 15 (l + 1) k → MixEnds t i k
mix_name t i l k a s r =
    let u = r.word' in
    let z = u ++ (41 ∷ (42 ∷ [])) in
    let o = r.on' in
    let y = while_le a.run in
    let f = front_of t z k r.inside in
    let d = r.done (41 ∷ (42 ∷ [])) in
    let t' = take k t ++ z in
    let next : get_or t' (k + length u + 1) 0 ≡ 42 = ap (λ (c : List ℕ). get_or c (k + length u + 1) 0) (more_text t u (42 ∷ []) k 41) ∙ ap (λ (c : ℕ). get_or (take k t ++ ((u ++ (41 ∷ [])) ++ (42 ∷ []))) c 0) (longer k u 41) ∙ at_here t (u ++ (41 ∷ [])) [] k 42 r.inside in
    let far : k + length u + 1 + 1 ≡ k + length z = omega (arith, length-append u (41 ∷ (42 ∷ []))) in
    record {
      cut = k;
      blank = stop;
      on' = omega arith;
      inside = r.inside;
      word' = z;
      done = λ x b br v p e. ((1 ∷ []) ++ (5 ∷ []), slice t' d.0 (k + length u) ∷ [], subst (λ (j : ℕ). Mixed t' 32 b j ((1 ∷ []) ++ (5 ∷ [])) (slice t' d.0 (k + length u) ∷ [])) far (text_names br v p (from_here t' (x + 7) e (while_move f a.run (omega arith))) (f.same l (omega arith) ∙ tok_says t l bar s) d.1 d.2 (listed_done stop (at_here t u (42 ∷ []) k 41 r.inside)) next));
    }

mix_list : (t : List ℕ) (i l k q : ℕ) (w : List ℕ) (ns : List (List ℕ)) → Longest white t i l → tok t l ≡ bar →
    Stands t named 15 (l + 1) (good q w ns) → l + 1 < q → Ends t listed 15 q k → MixEnds t i k
mix_list t i l k q w ns a s p g r =
    let u = r.word' in
    let z = u ++ (42 ∷ []) in
    let o = r.on' in
    let y = while_le a.run in
    let f = front_of t z k r.inside in
    let d = r.done (42 ∷ []) in
    let t' = take k t ++ z in
    let c : p.0 ≤ k = omega (arith, name_le p.2) in
    record {
      cut = k;
      blank = stop;
      on' = omega arith;
      inside = r.inside;
      word' = z;
      done = λ x b br v h e. ((1 ∷ d.0) ++ (5 ∷ []), slice t' p.0 q ∷ d.1, subst (λ (j : ℕ). Mixed t' 32 b j ((1 ∷ d.0) ++ (5 ∷ [])) (slice t' p.0 q ∷ d.1)) (longer k u 42) (text_names br v h (from_here t' (x + 7) e (while_move f a.run (omega arith))) (f.same l (omega arith) ∙ tok_says t l bar s) (while_move f p.1 c) (name_move f p.2 o) d.2 (at_here t u [] k 42 r.inside)));
    }

mix_star_here : (t : List ℕ) (i l k j q : ℕ) (w v : List ℕ) (ns ms : List (List ℕ)) → Longest white t i l →
    tok t l ≡ bar → Stands t named 15 (l + 1) (good q w ns) → l + 1 < q → Listed t 32 q j v ms → j ≤ length t →
    While white t j k → MixEnds t i k
mix_star_here t i l k j q w v ns ms a s p g r h blank' =
    let y = while_le a.run in
    let o = listed_on r in
    let f = front_of t (42 ∷ []) j h in
    let t' = take j t ++ (42 ∷ []) in
    let n = name_le p.2 in
    let c : p.0 ≤ j = omega arith in
    record {
      cut = j;
      blank = blank';
      on' = omega arith;
      inside = h;
      word' = 42 ∷ [];
      done = λ x b br u e z. ((1 ∷ v) ++ (5 ∷ []), slice t' p.0 q ∷ ms, text_names br u e (from_here t' (x + 7) z (while_move f a.run (omega arith))) (f.same l (omega arith) ∙ tok_says t l bar s) (while_move f p.1 c) (name_move f p.2 (omega arith)) (listed_move f r (omega arith)) (at_first t [] j 42 h));
    }

pub mix_viable : {t : List ℕ} {i k : ℕ} {f : Cause} → Mixes t i (bad f k) → i ≤ length t → MixEnds t i k
mix_viable {t} {i} (x_none {l = l} a x y) h = mix_here t i l a h
mix_viable {t} {i} (x_name_bad {l = l} {k = k} a s r) h = mix_name t i l k a s (viable r (omega (arith, bar_in t l s)))
mix_viable {t} {i} (x_list_bad {l = l} {k = q} {y = k} {w = w} {ns = ns} a s r e z) h = let x = viable r (omega (arith, bar_in t l s)) in mix_list t i l k q w ns a s (sound r) x.0 (viable z x.1)
mix_viable {t} {i} (x_no_star {l = l} {k = q} {j = j} {y = k} {w = w} {v = v} {ns = ns} {ms = ms} a s r e z n u) h = let x = viable r (omega (arith, bar_in t l s)) in let y = viable z x.1 in mix_star_here t i l k j q w v ns ms a s (sound r) x.0 (sound z) y.1 u.run

-- content specifications
pub record OpenEnds (t : List ℕ) (k : ℕ) : Type 0 where
  pub cut : ℕ
  pub blank : While white t cut k
  pub word' : List ℕ
  pub from : ℕ
  pub to : ℕ
  pub codes' : List ℕ
  pub names' : List (List ℕ)
  pub before : While white (take cut t ++ word') 0 from
  pub spec : ContentSpec (take cut t ++ word') 32 16 from to codes' names'
  pub ends : to ≡ length (take cut t ++ word')
  pub inside : cut ≤ length t

cut_length : (t u : List ℕ) (k : ℕ) → k ≤ length t → k + length u ≡ length (take k t ++ u)
cut_length t u k h = omega (arith, length-append (take k t) u, length-take-le k t h)

empty_here : (t : List ℕ) (b : ℕ) → Longest white t 0 b → OpenEnds t b
empty_here t b a =
    let inside : b ≤ length t = run_inside white t refl a.run (omega arith) in
    let t' = take b t ++ codes "EMPTY" in
    record {
      cut = b;
      blank = stop;
      word' = codes "EMPTY";
      from = b;
      to = b + 5;
      codes' = 0 ∷ [];
      names' = [];
      before = while_move (front_of t (codes "EMPTY") b inside) a.run (omega arith);
      spec = empty (slice_at t' b 5 ∙ ap (take 5) (drop_at (take b t) (codes "EMPTY") b (length-take-le b t inside)));
      ends = cut_length t (codes "EMPTY") b inside;
      inside = inside;
    }

pub pcdata_in : (t : List ℕ) (l : ℕ) → tok t l ≡ pcdata → l + 7 ≤ length t
pcdata_in t l s =
    let seven : length (take 7 (drop l t)) ≡ 7 = ap length (sym (slice_at t l 7) ∙ pcdata_slice t l s) in
    ⊎_elim (λ h. absurd (let z : length (take 7 (drop l t)) ≡ length (drop l t) = ap length (take_all 7 (drop l t) (omega (arith, length-drop l t))) in omega (arith, length-drop l t))) (λ h. h) (order (length t) (l + 7))

mixed_here : (t : List ℕ) (b l k : ℕ) → Longest white t 0 b → tok t b ≡ opens → Longest white t (b + 1) l →
    tok t l ≡ pcdata → MixEnds t (l + 7) k → OpenEnds t k
mixed_here t b l k a s u p r =
    let o = r.on' in
    let f = front_of t r.word' r.cut r.inside in
    let x = while_le u.run in
    let d = r.done l b (f.same b (omega arith) ∙ tok_says t b opens s) (while_move f u.run (omega arith)) (f.piece l (l + 7) (omega arith) (omega arith) ∙ pcdata_slice t l p) refl in
    record {
      cut = r.cut;
      blank = r.blank;
      word' = r.word';
      from = b;
      to = r.cut + length r.word';
      codes' = d.0;
      names' = d.1;
      before = while_move f a.run (omega arith);
      spec = mixed d.2;
      ends = cut_length t r.word' r.cut r.inside;
      inside = r.inside;
    }

children_of : (t : List ℕ) (b j : ℕ) (w : List ℕ) (ns : List (List ℕ)) →
    Is t 32 choice (15 + 1) b j w ns ⊎ Is t 32 seq (15 + 1) b j w ns → ContentSpec t 32 16 b j (w ++ []) ns
children_of t b j w ns (inl r) = children_choice r unmarked
children_of t b j w ns (inr r) = children_seq r unmarked

children_here : (t : List ℕ) (b k : ℕ) → Longest white t 0 b → tok t b ≡ opens → Ends t body 15 (b + 1) k → OpenEnds t k
children_here t b k a s r =
    let u = r.word' in
    let o = r.on' in
    let f = front_of t (u ++ []) k r.inside in
    let t' = take k t ++ (u ++ []) in
    let d = r.done [] b refl (f.same b (omega arith) ∙ tok_says t b opens s) in
    record {
      cut = k;
      blank = stop;
      word' = u ++ [];
      from = b;
      to = k + length u;
      codes' = d.0 ++ [];
      names' = d.1;
      before = while_move f a.run (omega arith);
      spec = children_of t' b (k + length u) d.0 d.1 d.2;
      ends = ap (λ (l : List ℕ). k + length l) (sym (append-nil u)) ∙ cut_length t (u ++ []) k r.inside;
      inside = r.inside;
    }

pub open_viable : {t : List ℕ} {k : ℕ} {f : Cause} → Opens t 0 (bad f k) → OpenEnds t k
open_viable {t} (c_word {b = b} a s r h) = empty_here t b a
open_viable {t} (c_none {b = b} a x y) = empty_here t b a
open_viable {t} {k} (c_mixed {b = b} {l = l} a s u p x) = mixed_here t b l k a s u p (mix_viable x (pcdata_in t l p))
open_viable {t} (c_bad {b = b} {k = k} a s u p r) = children_here t b k a s (viable r (omega (arith, byte_inside t b 40 (tok_says t b opens s) (omega arith))))

pub mix_in : (t : List ℕ) {i j : ℕ} {w : List ℕ} {ns : List (List ℕ)} → Mixes t i (good j w ns) → j ≤ length t
mix_in t (x_text {l = l} a s f) = omega (arith, byte_inside t l 41 (tok_says t l closes s) (omega arith))
mix_in t (x_star {l = l} a s f) = omega (arith, byte_inside t (l + 1) 42 (tok_says t (l + 1) star f) (omega arith))
mix_in t (x_names {j = j} a s r e q f) = omega (arith, byte_inside t j 42 (tok_says t j star f) (omega arith))

pub open_in : (t : List ℕ) {i j : ℕ} {w : List ℕ} {ns : List (List ℕ)} → Opens t i (good j w ns) → j ≤ length t
open_in t (c_empty {b = b} {k = k} a s r h) = run_inside inner t refl r.run (omega (arith, word_in t b s))
open_in t (c_mixed a s u p x) = mix_in t x
open_in t (c_children {b = b} a s u p r m) = (mark_in t m (viable r (omega (arith, byte_inside t b 40 (tok_says t b opens s) (omega arith)))).1).1

mixed_le : {t : List ℕ} {n i j : ℕ} {w : List ℕ} {ns : List (List ℕ)} → Mixed t n i j w ns → i ≤ j
mixed_le (text_alone br u p z e) = omega (arith, while_le u, while_le z)
mixed_le (text_star br u p z e s) = omega (arith, while_le u, while_le z)
mixed_le (text_names br u p z e y nm r s) = omega (arith, while_le u, while_le z, while_le y, name_le nm, listed_on r)

spec_le : {t : List ℕ} {n d i j : ℕ} {w : List ℕ} {ns : List (List ℕ)} → ContentSpec t n d i j w ns → i ≤ j
spec_le (empty e) = omega arith
spec_le (mixed m) = mixed_le m
spec_le (children_choice r m) = omega (arith, is_on r, marks_le m)
spec_le (children_seq r m) = omega (arith, is_on r, marks_le m)

left_here : (t : List ℕ) (j l : ℕ) (w : List ℕ) (ns : List (List ℕ)) → Spec t 0 (good j w ns) → j ≤ length t →
    Longest white t j l → Begun t l
left_here t j l w ns x h u =
    let inside : l ≤ length t = run_inside white t refl u.run h in
    let f = front_of t [] l inside in
    let t' = take l t ++ [] in
    let o = while_le u.run in
    let b : x.0 ≤ l = omega (arith, spec_le x.2) in
    let last : l ≡ length t' = z l ∙ cut_length t [] l inside in
    (l, [], w, ns, stop, record { from = x.0; to = j; before = while_move f x.1 b; spec = spec_move f x.2 o; after = subst (λ (y : ℕ). While white t' j y) last (while_move f u.run (omega arith)) })
  where
    z : (l : ℕ) → l ≡ l + 0
    z l = omega arith

pub begun : (t : List ℕ) {f : Cause} {k : ℕ} → Whole t (bad f k) → Begun t k
begun t (w_bad r) =
    let x = open_viable r in
    (x.cut, x.word', x.codes', x.names', x.blank, record { from = x.from; to = x.to; before = x.before; spec = x.spec; after = subst (λ (y : ℕ). While white (take x.cut t ++ x.word') x.to y) x.ends stop })
begun t (w_left {j = j} {l = l} {w = w} {ns = ns} r u x) = left_here t j l w ns (sound_open r) (open_in t r) u
