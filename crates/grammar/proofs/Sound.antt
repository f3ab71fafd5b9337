-- What is read stands there by the productions. Assumes nothing.
use Rattle.std.proofs.Common.{◌≡◌, ℕ, ◌+◌, ◌≤◌, true, ◌⊎◌, List, [], ◌∷◌, ◌++◌, length, get_or, codes, sym, refl, ap, subst, inl, inr, ⊎_elim, arith}
use Rattle.std.proofs.str.Laws.{order}
use Rattle.symbols.specs.Rule.{inner}
use Rattle.tokens.specs.Bytes.{white}
use Rattle.tokens.specs.Tokens.{word, pcdata, opens, closes, bar, star, end, tok, While, Longest, slice, pcdata_at}
use Rattle.tokens.proofs.Runs.{run_inside}
use Rattle.tokens.proofs.Signs.{tok_says}
use Rattle.grammar.specs.declared.Chain.{Chain}
use Rattle.grammar.specs.declared.Chain.TheVariants.{Choice, Seq}
use Rattle.grammar.specs.Grammar.{code, Name, Marks, unmarked, with_mark, cp, choice, seq, rest, Is, cp_name, cp_choice, cp_seq, is_choice, is_seq, rest_done, rest_next, Listed, listed_done, listed_next, Mixed, text_alone, text_star, text_names, ContentSpec, empty, mixed, children_choice, children_seq, Model}
use Rattle.grammar.specs.Reads.{joins, chain_of_tok, Mark, none, one, Outcome, good, bad, after, Part, particle, body, onward, named, listed, Reads, p_name, p_long, p_many, p_deep, p_group, p_group_bad, p_none, b_bad, b_goes_on, o_done, o_bad, o_next, o_none, n_name, n_long, n_many, n_none, l_done, l_bad, l_next, l_none, Mixes, x_text, x_star, x_none, x_name_bad, x_list_bad, x_names, x_no_star, Opens, c_empty, c_word, c_none, c_mixed, c_children, c_bad, Whole, w_good}
use Rattle.grammar.proofs.Tokens.{joined, chain_bar, mark_byte, pcdata_slice, slice_end, inside_not}

pub sound_mark : {t : List ℕ} {i j : ℕ} {m : List ℕ} → Mark t i j m → Marks t i j m
sound_mark (none _) = unmarked
sound_mark {t} {i} (one k) = with_mark (mark_byte t i k)

-- what each part that is read is by the productions
abbrev pub Stands : List ℕ → Part → ℕ → ℕ → Outcome → Type 0
Stands t particle e i (good j w ns) = (b : ℕ) × While white t i b × Is t 32 cp e b j w ns
Stands t body e i (good j w ns) = (x : ℕ) → i ≡ x + 1 → get_or t x 0 ≡ 40 → Is t 32 choice (e + 1) x j w ns ⊎ Is t 32 seq (e + 1) x j w ns
Stands t (onward g) e i (good j w ns) = Is t 32 (rest g) e i j w ns
Stands t named e i (good j w ns) = (b : ℕ) × While white t i b × Name t 32 b j × (w ≡ 1 ∷ []) × (ns ≡ slice t b j ∷ [])
Stands t listed e i (good j w ns) = Listed t 32 i j w ns
Stands t particle e i (bad f k) = Unit {0}
Stands t body e i (bad f k) = Unit {0}
Stands t (onward g) e i (bad f k) = Unit {0}
Stands t named e i (bad f k) = Unit {0}
Stands t listed e i (bad f k) = Unit {0}

sound_name : (t : List ℕ) (b k : ℕ) → tok t b ≡ word → Longest inner t (b + 1) k → k ≤ b + 32 → Name t 32 b k
sound_name t b k e r h = record { first = tok_says t b word e; later = r.run; short = h }

sound_group : (t : List ℕ) (e x i b k j : ℕ) (w m : List ℕ) (ns : List (List ℕ)) → While white t i b → e ≡ x + 1 →
    Is t 32 choice (x + 1) b k w ns ⊎ Is t 32 seq (x + 1) b k w ns → Marks t k j m →
    Stands t particle e i (good j (w ++ m) ns)
sound_group t e x i b k j w m ns a ex (inl r) mk = (b, a, cp_choice (subst (λ (y : ℕ). Is t 32 choice y b k w ns) (sym ex) r) mk)
sound_group t e x i b k j w m ns a ex (inr r) mk = (b, a, cp_seq (subst (λ (y : ℕ). Is t 32 seq y b k w ns) (sym ex) r) mk)

sound_body : (t : List ℕ) (e i k l : ℕ) (w : List ℕ) (ns : List (List ℕ)) (g : Chain) (o : Outcome) →
    Stands t particle e i (good k w ns) → While white t k l → g ≡ chain_of_tok (tok t l) → Stands t (onward g) e k o →
    Stands t body e i (after w ns o)
sound_body t e i k l w ns Choice (good j v ms) p u c q = λ x ix br. inl (is_choice br refl (subst (λ (y : ℕ). While white t y p.0) ix p.1) p.2 u (tok_says t l bar (chain_bar (tok t l) c)) q)
sound_body t e i k l w ns Seq (good j v ms) p u c q = λ x ix br. inr (is_seq br refl (subst (λ (y : ℕ). While white t y p.0) ix p.1) p.2 q)
sound_body t e i k l w ns Choice (bad f y) p u c q = tt
sound_body t e i k l w ns Seq (bad f y) p u c q = tt

sound_next : (t : List ℕ) (e i k l : ℕ) (w : List ℕ) (ns : List (List ℕ)) (g : Chain) (o : Outcome) → While white t i l →
    joins g (tok t l) ≡ true → Stands t particle e (l + 1) (good k w ns) → Stands t (onward g) e k o →
    Stands t (onward g) e i (after (w ++ (code g ∷ [])) ns o)
sound_next t e i k l w ns g (good j v ms) a s p q = rest_next a (joined g (tok t l) (get_or t l 0) (pcdata_at t l) s (tok_says t l (tok t l) refl)) p.1 p.2 q
sound_next t e i k l w ns g (bad f y) a s p q = tt

sound_listed : (t : List ℕ) (e i k l : ℕ) (w : List ℕ) (ns : List (List ℕ)) (o : Outcome) → While white t i l →
    tok t l ≡ bar → Stands t named e (l + 1) (good k w ns) → Stands t listed e k o →
    Stands t listed e i (after (w ++ (3 ∷ [])) ns o)
sound_listed t e i k l w ns (good j v ms) a s p q =
    subst (λ (z : List ℕ). Listed t 32 i j ((z ++ (3 ∷ [])) ++ v) (ns ++ ms)) (sym p.3)
    (subst (λ (z : List (List ℕ)). Listed t 32 i j (1 ∷ (3 ∷ v)) (z ++ ms)) (sym p.4) (listed_next a (tok_says t l bar s) p.1 p.2 q))
sound_listed t e i k l w ns (bad f y) a s p q = tt

pub sound : {t : List ℕ} {s : Part} {e i c : ℕ} {o : Outcome} → Reads t s e i c o → Stands t s e i o
sound {t} (p_name {b = b} {k = k} a s r h z m) = (b, a.run, cp_name (sound_name t b k s r h) (sound_mark m))
sound (p_long a s r h) = tt
sound (p_many a s r h z) = tt
sound (p_deep a s h) = tt
sound {t} {s} {e} {i} (p_group {x = x} {b = b} {k = k} {j = j} {w = w} {m = m} {ns = ns} a s' h r mk) = sound_group t e x i b k j w m ns a.run h (sound r b refl (tok_says t b opens s')) (sound_mark mk)
sound (p_group_bad a s h r) = tt
sound (p_none a x y) = tt
sound (b_bad r) = tt
sound {t} {s} {e} {i} (b_goes_on {k = k} {l = l} {w = w} {ns = ns} {g = g} {o = o} r u h x q) = sound_body t e i k l w ns g o (sound r) u.run h (sound q)
sound {t} (o_done {l = l} a s) = rest_done a.run (tok_says t l closes s)
sound (o_bad a s r) = tt
sound {t} {s} {e} {i} (o_next {g = g} {l = l} {k = k} {w = w} {ns = ns} {o = o} a s' r x q) = sound_next t e i k l w ns g o a.run s' (sound r) (sound q)
sound (o_none a x y) = tt
sound {t} (n_name {b = b} {k = k} a s r h z) = (b, a.run, sound_name t b k s r h, refl, refl)
sound (n_long a s r h) = tt
sound (n_many a s r h z) = tt
sound (n_none a x) = tt
sound {t} (l_done {l = l} a s) = listed_done a.run (tok_says t l closes s)
sound (l_bad a s r) = tt
sound {t} {s} {e} {i} (l_next {l = l} {k = k} {w = w} {ns = ns} {o = o} a s' r x q) = sound_listed t e i k l w ns o a.run s' (sound r) (sound q)
sound (l_none a x y) = tt

-- what is read as a content specification is one
abbrev pub Spec : List ℕ → ℕ → Outcome → Type 0
Spec t i (good j w ns) = (b : ℕ) × While white t i b × ContentSpec t 32 16 b j w ns
Spec t i (bad f k) = Unit {0}

sound_mixed : (t : List ℕ) (i b l : ℕ) (o : Outcome) → While white t i b → tok t b ≡ opens → While white t (b + 1) l →
    tok t l ≡ pcdata → Mixes t (l + 7) o → Spec t i o
sound_mixed t i b l o a s u p (x_text {l = y} z e f) = (b, a, mixed (text_alone (tok_says t b opens s) u (pcdata_slice t l p) z.run (tok_says t y closes e)))
sound_mixed t i b l o a s u p (x_star {l = y} z e f) = (b, a, mixed (text_star (tok_says t b opens s) u (pcdata_slice t l p) z.run (tok_says t y closes e) (tok_says t (y + 1) star f)))
sound_mixed t i b l o a s u p (x_none z e f) = tt
sound_mixed t i b l o a s u p (x_name_bad z e r) = tt
sound_mixed t i b l o a s u p (x_list_bad z e r h q) = tt
sound_mixed t i b l o a s u p (x_names {l = y} {k = k} {j = j} {w = w} {v = v} {ns = ns} {ms = ms} z e r h q f) =
    let x = sound r in (
      b,
      a,
      mixed (
          subst (λ (d : List ℕ). Mixed t 32 b (j + 1) ((d ++ v) ++ (5 ∷ [])) (ns ++ ms)) (sym x.3)
          (subst (λ (d : List (List ℕ)). Mixed t 32 b (j + 1) ((1 ∷ v) ++ (5 ∷ [])) (d ++ ms)) (sym x.4)
          (text_names (tok_says t b opens s) u (pcdata_slice t l p) z.run (tok_says t y bar e) x.1 x.2 (sound q) (tok_says t j star f)))),
    )
sound_mixed t i b l o a s u p (x_no_star z e r h q f g) = tt

sound_children : (t : List ℕ) (i b k j : ℕ) (w m : List ℕ) (ns : List (List ℕ)) → While white t i b →
    Is t 32 choice (15 + 1) b k w ns ⊎ Is t 32 seq (15 + 1) b k w ns → Marks t k j m → Spec t i (good j (w ++ m) ns)
sound_children t i b k j w m ns a (inl r) mk = (b, a, children_choice r mk)
sound_children t i b k j w m ns a (inr r) mk = (b, a, children_seq r mk)

pub sound_open : {t : List ℕ} {i : ℕ} {o : Outcome} → Opens t i o → Spec t i o
sound_open {t} {i} (c_empty {b = b} {k = k} a s r h) =
    let five : k ≡ b + 5 = slice_end t b k s r.run (ap length h) in
    (b, a.run, subst (λ (y : ℕ). ContentSpec t 32 16 b y (0 ∷ []) []) (sym five) (empty (subst (λ (y : ℕ). slice t b y ≡ codes "EMPTY") five h)))
sound_open (c_word a s r h) = tt
sound_open (c_none a x y) = tt
sound_open {t} {i} (c_mixed {b = b} {l = l} {o = o} a s u p x) = sound_mixed t i b l o a.run s u.run p x
sound_open {t} {i} (c_children {b = b} {k = k} {j = j} {w = w} {m = m} {ns = ns} a s u p r mk) = sound_children t i b k j w m ns a.run (sound r b refl (tok_says t b opens s)) (sound_mark mk)
sound_open (c_bad a s u p r) = tt

-- white space up to the end of the text
to_end : (t : List ℕ) (j l : ℕ) → j ≤ length t → While white t j l → tok t l ≡ end → l ≡ length t
to_end t j l h r e = ⊎_elim (λ k. absurd (inside_not t l k e)) (λ k. let z = run_inside white t refl r h in omega arith) (order l (length t))

pub sound_whole : (t : List ℕ) {j : ℕ} {w : List ℕ} {ns : List (List ℕ)} → j ≤ length t → Whole t (good j w ns) →
    Model t 32 16 w ns
sound_whole t {j} {w} {ns} h (w_good {l = l} r u e) =
    let x = sound_open r in
    record { from = x.0; to = j; before = x.1; spec = x.2; after = subst (λ (y : ℕ). While white t j y) (to_end t j l h u.run e) u.run }
