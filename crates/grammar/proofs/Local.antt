-- A refusal rests on the bytes before its token and on that token. Assumes nothing.
use Rattle.std.proofs.Common.{◌≡◌, ℕ, ◌+◌, ◌-◌, ◌<◌, ◌≤◌, Bool, true, List, [], ◌∷◌, ◌++◌, length, get_or, drop, codes, sym, refl, ap, ◌∙◌, subst, arith, length-drop, length-take-le}
use Rattle.std.proofs.lemmas.List.{get_or-take, get_or-drop, ext_get_or}
use Rattle.symbols.specs.Rule.{start, inner}
use Rattle.tokens.specs.Bytes.{white}
use Rattle.tokens.specs.Tokens.{Tok, word, pcdata, opens, closes, bar, comma, query, star, plus, stray, strange, end, tok, Longest, slice}
use Rattle.tokens.proofs.Runs.{not_both, while_le, one_end, run_inside}
use Rattle.tokens.proofs.Signs.{byte_inside, tok_says, tok_word, tok_pcdata, tok_open, tok_close, tok_bar, tok_star}
use Rattle.grammar.specs.declared.Chain.{Chain}
use Rattle.grammar.specs.declared.Chain.TheVariants.{Choice, Seq}
use Rattle.grammar.specs.Grammar.{code, MarkOf}
use Rattle.grammar.specs.Reads.{Cause, cannot, joins, chain_of_tok, Mark, none, one, Outcome, good, bad, after, Part, particle, body, onward, named, listed, Reads, p_name, p_long, p_many, p_deep, p_group, p_group_bad, p_none, b_bad, b_goes_on, o_done, o_bad, o_next, o_none, n_name, n_long, n_many, n_none, l_done, l_bad, l_next, l_none, Mixes, x_text, x_star, x_none, x_name_bad, x_list_bad, x_names, x_no_star, Opens, c_empty, c_word, c_none, c_mixed, c_children, c_bad, Whole, w_bad, w_left}
use Rattle.grammar.proofs.Tokens.{chain_bar, tok_joins, mark_tok, mark_byte, take_begins, slice_at, pcdata_slice, hash_byte}
use Rattle.grammar.specs.Refusals.{Alike}
use Rattle.grammar.proofs.First.{Front, Viable, while_move, viable, mix_viable, name_in, bar_in, sign_byte, pcdata_in, open_in, open_viable}

not_bar : (k : Tok) → (k ≡ bar → ⊥) → chain_of_tok k ≡ Seq
not_bar word f = refl
not_bar pcdata f = refl
not_bar opens f = refl
not_bar closes f = refl
not_bar bar f = absurd (f refl)
not_bar comma f = refl
not_bar query f = refl
not_bar star f = refl
not_bar plus f = refl
not_bar stray f = refl
not_bar strange f = refl
not_bar end f = refl

slice_same : (t t' : List ℕ) (i j : ℕ) → i ≤ j → j ≤ length t → j ≤ length t' →
    ((m : ℕ) → m < j → get_or t' m 0 ≡ get_or t m 0) → slice t' i j ≡ slice t i j
slice_same t t' i j a b c f =
    let l : length (slice t i j) ≡ j - i = length-take-le (j - i) (drop i t) (omega (arith, length-drop i t)) in
    let l' : length (slice t' i j) ≡ j - i = length-take-le (j - i) (drop i t') (omega (arith, length-drop i t')) in
    ext_get_or 0 (slice t' i j) (slice t i j) (l' ∙ sym l) (λ m h. let n : m < j - i = omega arith in get_or-take (j - i) (drop i t') m 0 n ∙ get_or-drop i t' m 0 ∙ f (i + m) (omega arith) ∙ sym (get_or-take (j - i) (drop i t) m 0 n ∙ get_or-drop i t m 0))

front : {t t' : List ℕ} {k : ℕ} → Alike t t' k → k ≤ length t → Front t t' k
front {t} {t'} {k} a h = record { same = λ m l. a.same m (omega arith); piece = λ i j x y. slice_same t t' i j x (omega arith) (omega (arith, a.inside)) (λ m l. a.same m (omega arith)) }

module _ (t t' : List ℕ) (k : ℕ) (a : Alike t t' k) (fr : Front t t' k) where
  move : {p : ℕ → Bool} {i j : ℕ} → Longest p t i j → j ≤ k → Longest p t' i j
  move {p} {i} {j} r h = record { run = while_move fr r.run h; ends = ap p (a.same j h) ∙ r.ends }

  there : (b : ℕ) → b ≡ k → tok t' b ≡ tok t b
  there b e = ap (tok t') e ∙ a.token ∙ ap (tok t) (sym e)

  name_there : (b j : ℕ) → b ≡ k → Longest inner t (b + 1) j → Longest inner t' (b + 1) j × (slice t' b j ≡ slice t b j)
  name_there b j e r = subst (λ (x : ℕ). Longest inner t' (x + 1) j × (slice t' x j ≡ slice t x j)) (sym e) (a.name j (subst (λ (x : ℕ). Longest inner t (x + 1) j) e r))

  word' : (b : ℕ) → b ≤ k → tok t b ≡ word → tok t' b ≡ word
  word' b h s = tok_word t' b (ap start (a.same b h) ∙ tok_says t b word s)

  opens' : (b : ℕ) → b ≤ k → tok t b ≡ opens → tok t' b ≡ opens
  opens' b h s = tok_open t' b (a.same b h ∙ tok_says t b opens s)

  closes' : (b : ℕ) → b ≤ k → tok t b ≡ closes → tok t' b ≡ closes
  closes' b h s = tok_close t' b (a.same b h ∙ tok_says t b closes s)

  bar' : (b : ℕ) → b ≤ k → tok t b ≡ bar → tok t' b ≡ bar
  bar' b h s = tok_bar t' b (a.same b h ∙ tok_says t b bar s)

  star' : (b : ℕ) → b ≤ k → tok t b ≡ star → tok t' b ≡ star
  star' b h s = tok_star t' b (a.same b h ∙ tok_says t b star s)

  no_star : (b : ℕ) → b ≤ k → (tok t b ≡ star → ⊥) → tok t' b ≡ star → ⊥
  no_star b h f s = f (tok_star t b (sym (a.same b h) ∙ tok_says t' b star s))

  joins' : (g : Chain) (b : ℕ) → b ≤ k → joins g (tok t b) ≡ true → joins g (tok t' b) ≡ true
  joins' g b h s = tok_joins t' b g (a.same b h ∙ (sign_byte t b g s).0)

  chain' : (l : ℕ) → l ≤ k → chain_of_tok (tok t l) ≡ chain_of_tok (tok t' l)
  chain' l h = go (chain_of_tok (tok t l)) refl
    where
      go : (g : Chain) → g ≡ chain_of_tok (tok t l) → chain_of_tok (tok t l) ≡ chain_of_tok (tok t' l)
      go Choice e = ap chain_of_tok (chain_bar (tok t l) e ∙ sym (bar' l h (chain_bar (tok t l) e)))
      go Seq e = sym e ∙ sym (not_bar (tok t' l) (λ s. let b = tok_bar t l (sym (a.same l h) ∙ tok_says t' l bar s) in let z : Seq ≡ Choice = e ∙ ap chain_of_tok b in let y : ◌≡◌ {A = ℕ} 0 1 = cc in omega arith))

  mark' : {i j : ℕ} {m : List ℕ} → Mark t i j m → i ≤ k → Mark t' i j m
  mark' {i} (none f) h = none (λ m x. f m (mark_tok t i (subst (λ (b : ℕ). MarkOf b m) (a.same i h) (mark_byte t' i x))))
  mark' {i} (one {m = m} x) h = one (mark_tok t' i (subst (λ (b : ℕ). MarkOf b m) (sym (a.same i h)) (mark_byte t i x)))

  mark_on : {i j : ℕ} {m : List ℕ} → Mark t i j m → i ≤ j
  mark_on (none f) = omega arith
  mark_on (one x) = omega arith

  -- what is read or refused in the one text, up to k, is in the other
  abbrev Moves : Part → ℕ → ℕ → ℕ → Outcome → Type 0
  Moves s e i c (good j w ns) = i ≤ length t → j ≤ k → Reads t' s e i c (good j w ns)
  Moves s e i c (bad f y) = i ≤ length t → y ≡ k → Reads t' s e i c (bad f y)

  -- a token that can't follow, there too
  refused' : {s : Part} {e i c : ℕ} (b : ℕ) → b ≡ k → Reads t' s e i c (bad (cannot (tok t' b)) b) →
      Reads t' s e i c (bad (cannot (tok t b)) b)
  refused' {s} {e} {i} {c} b h r = subst (λ (x : Tok). Reads t' s e i c (bad (cannot x) b)) (there b h) r

  -- the next token stands before the end
  abbrev Later : ℕ → Outcome → Type 0
  Later l (good j w ns) = l < j
  Later l (bad f y) = l ≤ y

  later_after : (l q : ℕ) (w : List ℕ) (ns : List (List ℕ)) (s : Part) (e : ℕ) (o : Outcome) → l < q → q ≤ length t →
      Viable t s e q o → Later l (after w ns o)
  later_after l q w ns s e (good j v ms) h n r = let x = r n in omega (arith, x.0)
  later_after l q w ns s e (bad f y) h n r = let x = r n in omega (arith, x.on')

  onward_later : {g : Chain} {e i c l : ℕ} {o : Outcome} → Longest white t i l → Reads t (onward g) e i c o → Later l o
  onward_later {l = l} u (o_done b s) = let z = one_end u b in omega arith
  onward_later {l = l} u (o_bad {g = g} {l = x} b s r) = let z = one_end u b in let y = viable r (omega (arith, (sign_byte t x g s).1)) in omega (arith, y.on')
  onward_later {e = e} {l = l} u (o_next {g = g} {l = x} {k = q} {w = w} {ns = ns} {o = o} b s r h v) = let z = one_end u b in let y = viable r (omega (arith, (sign_byte t x g s).1)) in later_after l q (w ++ (code g ∷ [])) ns (onward g) e o (omega (arith, y.0)) y.1 (viable v)
  onward_later {l = l} u (o_none b x y) = let z = one_end u b in omega arith

  body_moves : (e i c q l x : ℕ) (w : List ℕ) (ns : List (List ℕ)) (g : Chain) (o : Outcome) →
      Moves particle e i c (good q w ns) → Viable t particle e i (good q w ns) → Longest white t q l →
      g ≡ chain_of_tok (tok t l) → x ≡ c + length ns → Later l o → Viable t (onward g) e q o → Moves (onward g) e q x o →
      Moves body e i c (after w ns o)
  body_moves e i c q l x w ns g (good j v ms) p n u h z m y r = λ le jk. let d = n le in let f = y d.1 in b_goes_on (p le (omega (arith, f.0))) (move u (omega arith)) (h ∙ chain' l (omega arith)) z (r d.1 jk)
  body_moves e i c q l x w ns g (bad f y) p n u h z m v r = λ le yk. let d = n le in let o = v d.1 in b_goes_on (p le (omega (arith, o.on'))) (move u (omega arith)) (h ∙ chain' l (omega arith)) z (r d.1 yk)

  next_moves : (g : Chain) (e i c l q x : ℕ) (w : List ℕ) (ns : List (List ℕ)) (o : Outcome) → Longest white t i l →
      joins g (tok t l) ≡ true → l < length t → Moves particle e (l + 1) c (good q w ns) →
      Viable t particle e (l + 1) (good q w ns) → x ≡ c + length ns → Viable t (onward g) e q o →
      Moves (onward g) e q x o → Moves (onward g) e i c (after (w ++ (code g ∷ [])) ns o)
  next_moves g e i c l q x w ns (good j v ms) b s lt p n z y r = λ le jk. let d = n (omega arith) in let f = y d.1 in o_next (move b (omega (arith, d.0, f.0))) (joins' g l (omega (arith, d.0, f.0)) s) (p (omega arith) (omega (arith, f.0))) z (r d.1 jk)
  next_moves g e i c l q x w ns (bad f y) b s lt p n z v r = λ le yk. let d = n (omega arith) in let o = v d.1 in o_next (move b (omega (arith, d.0, o.on'))) (joins' g l (omega (arith, d.0, o.on')) s) (p (omega arith) (omega (arith, o.on'))) z (r d.1 yk)

  list_moves : (e i c l q x : ℕ) (w : List ℕ) (ns : List (List ℕ)) (o : Outcome) → Longest white t i l → tok t l ≡ bar →
      l < length t → Moves named e (l + 1) c (good q w ns) → Viable t named e (l + 1) (good q w ns) → x ≡ c + length ns →
      Viable t listed e q o → Moves listed e q x o → Moves listed e i c (after (w ++ (3 ∷ [])) ns o)
  list_moves e i c l q x w ns (good j v ms) b s lt p n z y r = λ le jk. let d = n (omega arith) in let f = y d.1 in l_next (move b (omega (arith, d.0, f.0))) (bar' l (omega (arith, d.0, f.0)) s) (p (omega arith) (omega (arith, f.0))) z (r d.1 jk)
  list_moves e i c l q x w ns (bad f y) b s lt p n z v r = λ le yk. let d = n (omega arith) in let o = v d.1 in l_next (move b (omega (arith, d.0, o.on'))) (bar' l (omega (arith, d.0, o.on')) s) (p (omega arith) (omega (arith, o.on'))) z (r d.1 yk)

  moves : {s : Part} {e i c : ℕ} {o : Outcome} → Reads t s e i c o → Moves s e i c o
  moves {s} {e} {i} {c} (p_name {b = b} {k = q} {j = j} {m = m} x s' r h z mk) =
      λ le jk.
      let n = name_in t i b q x s' r in
      let o = mark_on mk in
      let l = while_le r.run in
      subst (λ (y : List ℕ). Reads t' particle e i c (good j (1 ∷ m) (y ∷ []))) (fr.piece b q (omega arith) (omega arith)) (p_name (move x (omega arith)) (word' b (omega arith) s') (move r (omega arith)) h z (mark' mk (omega arith)))
  moves (p_long {b = b} {k = q} x s' r h) = λ le yk. p_long (move x (omega arith)) (word' b (omega arith) s') (name_there b q yk r).0 h
  moves (p_many {b = b} {k = q} x s' r h z) = λ le yk. p_many (move x (omega arith)) (word' b (omega arith) s') (name_there b q yk r).0 h z
  moves (p_deep {b = b} x s' h) = λ le yk. p_deep (move x (omega arith)) (opens' b (omega arith) s') h
  moves (p_group {b = b} x s' h r mk) =
      λ le jk.
      let lt = byte_inside t b 40 (tok_says t b opens s') (omega arith) in
      let v = viable r (omega arith) in
      let o = mark_on mk in
      p_group (move x (omega (arith, v.0))) (opens' b (omega (arith, v.0)) s') h (moves r (omega arith) (omega arith)) (mark' mk (omega arith))
  moves (p_group_bad {b = b} x s' h r) =
      λ le yk.
      let lt = byte_inside t b 40 (tok_says t b opens s') (omega arith) in
      let v = viable r (omega arith) in
      p_group_bad (move x (omega (arith, v.on'))) (opens' b (omega (arith, v.on')) s') h (moves r (omega arith) yk)
  moves (p_none {b = b} x y z) = λ le yk. refused' b yk (p_none (move x (omega arith)) (λ s'. y (sym (there b yk) ∙ s')) (λ s'. z (sym (there b yk) ∙ s')))
  moves (b_bad r) = λ le yk. b_bad (moves r le yk)
  moves {s} {e} {i} {c} (b_goes_on {k = q} {l = l} {x = x} {w = w} {ns = ns} {g = g} {o = o} r u h z v) = body_moves e i c q l x w ns g o (moves r) (viable r) u h z (onward_later u v) (viable v) (moves v)
  moves (o_done {l = l} x s') = λ le jk. o_done (move x (omega arith)) (closes' l (omega arith) s')
  moves (o_bad {g = g} {l = l} x s' r) = λ le yk. let lt = (sign_byte t l g s').1 in let v = viable r (omega arith) in o_bad (move x (omega (arith, v.on'))) (joins' g l (omega (arith, v.on')) s') (moves r (omega arith) yk)
  moves {s} {e} {i} {c} (o_next {g = g} {l = l} {k = q} {x = x} {w = w} {ns = ns} {o = o} b s' r z v) = next_moves g e i c l q x w ns o b s' (sign_byte t l g s').1 (moves r) (viable r) z (viable v) (moves v)
  moves (o_none {g = g} {l = l} x y z) = λ le yk. refused' l yk (o_none (move x (omega arith)) (λ s'. y (sym (there l yk) ∙ s')) (ap (joins g) (there l yk) ∙ z))
  moves {s} {e} {i} {c} (n_name {b = b} {k = q} x s' r h z) =
      λ le jk.
      let l = while_le r.run in
      subst (λ (y : List ℕ). Reads t' named e i c (good q (1 ∷ []) (y ∷ []))) (fr.piece b q (omega arith) jk) (n_name (move x (omega arith)) (word' b (omega arith) s') (move r jk) h z)
  moves (n_long {b = b} {k = q} x s' r h) = λ le yk. n_long (move x (omega arith)) (word' b (omega arith) s') (name_there b q yk r).0 h
  moves (n_many {b = b} {k = q} x s' r h z) = λ le yk. n_many (move x (omega arith)) (word' b (omega arith) s') (name_there b q yk r).0 h z
  moves (n_none {b = b} x y) = λ le yk. refused' b yk (n_none (move x (omega arith)) (λ s'. y (sym (there b yk) ∙ s')))
  moves (l_done {l = l} x s') = λ le jk. l_done (move x (omega arith)) (closes' l (omega arith) s')
  moves (l_bad {l = l} x s' r) = λ le yk. let lt = bar_in t l s' in let v = viable r (omega arith) in l_bad (move x (omega (arith, v.on'))) (bar' l (omega (arith, v.on')) s') (moves r (omega arith) yk)
  moves {s} {e} {i} {c} (l_next {l = l} {k = q} {x = x} {w = w} {ns = ns} {o = o} b s' r z v) = list_moves e i c l q x w ns o b s' (bar_in t l s') (moves r) (viable r) z (viable v) (moves v)
  moves (l_none {l = l} x y z) = λ le yk. refused' l yk (l_none (move x (omega arith)) (λ s'. y (sym (there l yk) ∙ s')) (λ s'. z (sym (there l yk) ∙ s')))

  -- mixed models
  mix_on : {i j : ℕ} {w : List ℕ} {ns : List (List ℕ)} → Mixes t i (good j w ns) → i < j
  mix_on (x_text x s f) = omega (arith, while_le x.run)
  mix_on (x_star x s f) = omega (arith, while_le x.run)
  mix_on (x_names {l = l} x s r e q f) = let lt = bar_in t l s in let v = viable r (omega arith) in let z = viable q v.1 in omega (arith, while_le x.run, v.0, z.0)

  mix_good : {i j : ℕ} {w : List ℕ} {ns : List (List ℕ)} → Mixes t i (good j w ns) → j ≤ k → Mixes t' i (good j w ns)
  mix_good (x_text {l = l} x s f) h = x_text (move x (omega arith)) (closes' l (omega arith) s) (no_star (l + 1) h f)
  mix_good (x_star {l = l} x s f) h = x_star (move x (omega arith)) (closes' l (omega arith) s) (star' (l + 1) (omega arith) f)
  mix_good (x_names {l = l} {j = j} x s r e q f) h =
      let lt = bar_in t l s in
      let v = viable r (omega arith) in
      let z = viable q v.1 in
      x_names (move x (omega (arith, v.0, z.0))) (bar' l (omega (arith, v.0, z.0)) s) (moves r (omega arith) (omega (arith, z.0))) e (moves q v.1 (omega arith)) (star' j (omega arith) f)

  mix_bad : {i y : ℕ} {f : Cause} → Mixes t i (bad f y) → y ≡ k → Mixes t' i (bad f y)
  mix_bad {i} (x_none {l = l} x u v) yk = subst (λ (z : Tok). Mixes t' i (bad (cannot z) l)) (there l yk) (x_none (move x (omega arith)) (λ s. u (sym (there l yk) ∙ s)) (λ s. v (sym (there l yk) ∙ s)))
  mix_bad (x_name_bad {l = l} x s r) yk = let lt = bar_in t l s in let v = viable r (omega arith) in x_name_bad (move x (omega (arith, v.on'))) (bar' l (omega (arith, v.on')) s) (moves r (omega arith) yk)
  mix_bad (x_list_bad {l = l} x s r e q) yk = let lt = bar_in t l s in let v = viable r (omega arith) in let z = viable q v.1 in x_list_bad (move x (omega (arith, v.0, z.on'))) (bar' l (omega (arith, v.0, z.on')) s) (moves r (omega arith) (omega (arith, z.on'))) e (moves q v.1 yk)
  mix_bad {i} (x_no_star {l = l} {j = j} {y = y} x s r e q f u) yk =
      let lt = bar_in t l s in
      let v = viable r (omega arith) in
      let z = viable q v.1 in
      let o = while_le u.run in
      subst (λ (d : Tok). Mixes t' i (bad (cannot d) y)) (there y yk)
      (x_no_star (move x (omega (arith, v.0, z.0))) (bar' l (omega (arith, v.0, z.0)) s) (moves r (omega arith) (omega (arith, z.0))) e (moves q v.1 (omega arith)) (no_star j (omega arith) f) (move u (omega arith)))

  pcdata' : (l : ℕ) → l + 7 ≤ k → tok t l ≡ pcdata → tok t' l ≡ pcdata
  pcdata' l h s =
      let e : slice t' l (l + 7) ≡ codes "#PCDATA" = fr.piece l (l + 7) (omega arith) h ∙ pcdata_slice t l s in
      tok_pcdata t' l (a.same l (omega arith) ∙ hash_byte t l (pcdata_slice t l s)) (take_begins (codes "#PCDATA") (drop l t') (sym (slice_at t' l 7) ∙ e))

  -- a first token that is a hash is refused
  abbrev Hash' : ℕ → Outcome → Type 0
  Hash' l (good j w ns) = ⊥
  Hash' l (bad f y) = y ≡ l

  part_hash : {e i c l : ℕ} {o : Outcome} → Reads t particle e i c o → Longest white t i l → get_or t l 0 ≡ 35 → Hash' l o
  part_hash {l = l} (p_name {b = b} x s r h z m) u e = let y : b ≡ l = one_end u x in not_both (tok_says t b word s) (ap (λ (d : ℕ). start (get_or t d 0)) y ∙ ap start e)
  part_hash (p_long x s r h) u e = one_end u x
  part_hash (p_many x s r h z) u e = one_end u x
  part_hash (p_deep x s h) u e = one_end u x
  part_hash {l = l} (p_group {b = b} x s h r m) u e = let y : b ≡ l = one_end u x in let z : get_or t b 0 ≡ 40 = tok_says t b opens s in let d : get_or t b 0 ≡ get_or t l 0 = ap (λ (d : ℕ). get_or t d 0) y in omega arith
  part_hash {l = l} (p_group_bad {b = b} x s h r) u e = let y : b ≡ l = one_end u x in let z : get_or t b 0 ≡ 40 = tok_says t b opens s in let d : get_or t b 0 ≡ get_or t l 0 = ap (λ (d : ℕ). get_or t d 0) y in absurd (omega arith)
  part_hash (p_none x y z) u e = one_end u x

  body_hash : {e i c l : ℕ} {o : Outcome} → Reads t body e i c o → Longest white t i l → get_or t l 0 ≡ 35 → Hash' l o
  body_hash (b_bad r) u e = part_hash r u e
  body_hash (b_goes_on r x h y q) u e = absurd (part_hash r u e)

  hash_of : (l : ℕ) → l ≤ k → tok t' l ≡ pcdata → get_or t l 0 ≡ 35
  hash_of l h s = sym (a.same l h) ∙ hash_byte t' l (pcdata_slice t' l s)

  -- the first token of a group's inside stands before its end
  part_in : {e i c l : ℕ} {o : Outcome} → i ≤ length t → Longest white t i l → Reads t particle e i c o → Later l o
  part_in h u (p_name x s r z y m) = let q = one_end u x in omega (arith, while_le r.run, mark_on m)
  part_in h u (p_long x s r z) = let q = one_end u x in omega arith
  part_in h u (p_many x s r z y) = let q = one_end u x in omega arith
  part_in h u (p_deep x s z) = let q = one_end u x in omega arith
  part_in h u (p_group {b = b} x s z r m) = let q = one_end u x in let lt = byte_inside t b 40 (tok_says t b opens s) (omega arith) in let v = viable r (omega arith) in omega (arith, v.0, mark_on m)
  part_in h u (p_group_bad {b = b} x s z r) = let q = one_end u x in let lt = byte_inside t b 40 (tok_says t b opens s) (omega arith) in let v = viable r (omega arith) in omega (arith, v.on')
  part_in h u (p_none x y z) = let q = one_end u x in omega arith

  body_in : {e i c l : ℕ} {o : Outcome} → i ≤ length t → Longest white t i l → Reads t body e i c o → Later l o
  body_in h u (b_bad r) = part_in h u r
  body_in {e = e} {l = l} h u (b_goes_on {k = q} {w = w} {ns = ns} {g = g} {o = o} r x y z v) = let d = viable r h in later_after l q w ns (onward g) e o (part_in h u r) d.1 (viable v)

  open_good : {j : ℕ} {w : List ℕ} {ns : List (List ℕ)} → Opens t 0 (good j w ns) → j ≤ k → Opens t' 0 (good j w ns)
  open_good (c_empty {b = b} {k = q} x s r h) jk = let l = while_le r.run in c_empty (move x (omega arith)) (word' b (omega arith) s) (move r jk) (fr.piece b q (omega arith) jk ∙ h)
  open_good (c_mixed {b = b} {l = l} x s u p m) jk = let o = mix_on m in let y = while_le u.run in c_mixed (move x (omega arith)) (opens' b (omega arith) s) (move u (omega arith)) (pcdata' l (omega arith) p) (mix_good m jk)
  open_good (c_children {b = b} {l = l} x s u p r mk) jk =
      let lt = byte_inside t b 40 (tok_says t b opens s) (omega arith) in
      let v = viable r (omega arith) in
      let o = mark_on mk in
      let n = body_in (omega arith) u r in
      c_children (move x (omega (arith, v.0))) (opens' b (omega (arith, v.0)) s) (move u (omega arith)) (λ e. body_hash r u (hash_of l (omega arith) e)) (moves r (omega arith) (omega arith)) (mark' mk (omega arith))

  open_bad : {y : ℕ} {f : Cause} → Opens t 0 (bad f y) → y ≡ k → Opens t' 0 (bad f y)
  open_bad (c_word {b = b} {k = q} x s r h) yk = let n = name_there b q yk r in c_word (move x (omega arith)) (word' b (omega arith) s) n.0 (λ e. h (sym n.1 ∙ e))
  open_bad (c_none {b = b} x u v) yk = subst (λ (z : Tok). Opens t' 0 (bad (cannot z) b)) (there b yk) (c_none (move x (omega arith)) (λ s. u (sym (there b yk) ∙ s)) (λ s. v (sym (there b yk) ∙ s)))
  open_bad (c_mixed {b = b} {l = l} x s u p m) yk = let v = mix_viable m (pcdata_in t l p) in let z = while_le v.blank in let o = v.on' in let y = while_le u.run in c_mixed (move x (omega arith)) (opens' b (omega arith) s) (move u (omega arith)) (pcdata' l (omega arith) p) (mix_bad m yk)
  open_bad (c_bad {b = b} {l = l} x s u p r) yk =
      let lt = byte_inside t b 40 (tok_says t b opens s) (omega arith) in
      let v = viable r (omega arith) in
      let n = body_in (omega arith) u r in
      c_bad (move x (omega (arith, v.on'))) (opens' b (omega (arith, v.on')) s) (move u (omega arith)) (λ e. let z = body_hash r u (hash_of l (omega arith) e) in p (sym (there l (omega arith)) ∙ e)) (moves r (omega arith) yk)

  whole_bad : {y : ℕ} {f : Cause} → Whole t (bad f y) → y ≡ k → Whole t' (bad f y)
  whole_bad (w_bad r) yk = w_bad (open_bad r yk)
  whole_bad (w_left {l = l} r u x) yk = subst (λ (z : Tok). Whole t' (bad (cannot z) l)) (there l yk) (w_left (open_good r (omega (arith, while_le u.run))) (move u (omega arith)) (λ s. x (sym (there l yk) ∙ s)))

fault_inside : (t : List ℕ) {f : Cause} {k : ℕ} → Whole t (bad f k) → k ≤ length t
fault_inside t (w_bad r) = let x = open_viable r in run_inside white t refl x.blank x.inside
fault_inside t (w_left r u x) = run_inside white t refl u.run (open_in t r)

-- the same refusal in every text that is alike up to the token
pub still_bad : (t t' : List ℕ) (f : Cause) (k : ℕ) → Alike t t' k → Whole t (bad f k) → Whole t' (bad f k)
still_bad t t' f k a r = whole_bad t t' k a (front a (fault_inside t r)) r refl
