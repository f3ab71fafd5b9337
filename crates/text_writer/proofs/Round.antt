-- What is written reads back. Assumes nothing.
use Rattle.std.proofs.Common.{◌≡◌, ℕ, suc, ◌+◌, ◌-◌, ◌<◌, ◌≤◌, max, Bool, true, cond, ◌⊎◌, List, [], ◌∷◌, ◌++◌, length, get_or, take, codes, sym, refl, ap, ◌∙◌, subst, inl, inr, append_assoc, append-nil, arith, length-append}
use native.Mathlib.Nat.{le-max_left, le-max_right}
use Rattle.std.proofs.lemmas.List.{get_or_at, take_at, drop_at}
use Rattle.std.proofs.lemmas.Bool.{ne_eqb}
use Rattle.symbols.specs.Rule.{start, inner, IsName}
use Rattle.tokens.specs.Bytes.{white}
use Rattle.tokens.specs.Tokens.{While, stop, on, slice}
use Rattle.grammar.specs.declared.Chain.TheVariants.{Choice, Seq}
use Rattle.grammar.specs.Grammar as grammar
use Rattle.grammar.specs.Grammar.{Name, MarkOf, is_query, is_star, is_plus, Marks, unmarked, with_mark, Sym, cp, choice, seq, rest, Is, cp_name, cp_choice, cp_seq, is_choice, is_seq, rest_done, rest_next, ContentSpec, children_choice, children_seq, Model}
use Rattle.codes.specs.Tree.{Tree, empty, leaf, then, either, maybe, many, some, postfix, leaves}
use Rattle.text_writer.specs.declared.place.Place.{Place}
use Rattle.text_writer.specs.declared.place.Place.TheVariants.{Alone, Commas, Bars, Marked}
use Rattle.text_writer.specs.Written.{grouped, mark_opens, with_sign, text, bracketed, written}
use Rattle.text_writer.proofs.Names.{later_allowed}
use Rattle.text_writer.proofs.Nest.{deeper, nest, Named}

-- the bytes s stand in t from i
record At (t : List ℕ) (i : ℕ) (s : List ℕ) : Type 0 where
  front : List ℕ
  back : List ℕ
  whole : t ≡ front ++ (s ++ back)
  place : length front ≡ i

at_left : {t : List ℕ} {i : ℕ} (a b : List ℕ) → At t i (a ++ b) → At t i a
at_left a b h = record { front = h.front; back = b ++ h.back; whole = h.whole ∙ ap (λ (l : List ℕ). h.front ++ l) (append_assoc a b h.back); place = h.place }

at_right : {t : List ℕ} {i : ℕ} (k : ℕ) (a b : List ℕ) → k ≡ i + length a → At t i (a ++ b) → At t k b
at_right k a b e h = record { front = h.front ++ a; back = h.back; whole = h.whole ∙ ap (λ (l : List ℕ). h.front ++ l) (append_assoc a b h.back) ∙ sym (append_assoc h.front a (b ++ h.back)); place = length-append h.front a ∙ ap (λ (n : ℕ). n + length a) h.place ∙ sym e }

at_byte : {t : List ℕ} {i b : ℕ} {s : List ℕ} → At t i (b ∷ s) → get_or t i 0 ≡ b
at_byte {t} {i} {b} {s} h = ap (λ (l : List ℕ). get_or l i 0) h.whole ∙ get_or_at h.front b (s ++ h.back) 0 i h.place

at_tail : {t : List ℕ} {i b : ℕ} {s : List ℕ} → At t i (b ∷ s) → At t (i + 1) s
at_tail {t} {i} {b} {s} h = at_right (i + 1) (b ∷ []) s refl h

at_slice : {t : List ℕ} {i : ℕ} (k : ℕ) (s : List ℕ) → k ≡ i + length s → At t i s → slice t i k ≡ s
at_slice {t} {i} k s e h =
    let n : k - i ≡ length s = omega arith in
    ap (λ (l : List ℕ). slice l i k) h.whole ∙ ap (take (k - i)) (drop_at h.front (s ++ h.back) i h.place) ∙ take_at s h.back (k - i) (sym n)

-- a run of bytes that a name may have
inner_run : (t : List ℕ) (i k : ℕ) (s : List ℕ) → k ≡ i + length s → ((m : ℕ) → m < length s → inner (get_or s m 0) ≡ true) → At t i s → While inner t i k
inner_run t i k [] e f h = let z : i ≡ k = omega arith in subst (λ (y : ℕ). While inner t i y) z stop
inner_run t i k (b ∷ s) e f h =
    on (ap inner (at_byte h) ∙ f 0 (omega arith)) (inner_run t (i + 1) k s (omega arith) (λ m z. f (suc m) (omega arith)) (at_tail h))

name_at : (t : List ℕ) (i k : ℕ) (s : List ℕ) → k ≡ i + length s → IsName s → At t i s → Name t 32 i k
name_at t i k [] e f h = let z : ◌≤◌ 1 0 = f.0 in absurd (omega arith)
name_at t i k (b ∷ s) e f h = record {
  first = ap start (at_byte h) ∙ f.2 0 (omega arith);
  later = inner_run t (i + 1) k s (omega arith) (λ m z. sym (later_allowed m (get_or s m 0)) ∙ f.2 (suc m) (omega arith)) (at_tail h);
  short = omega (arith, f.1);
}

abbrev InSeq : List ℕ → ℕ → ℕ → ℕ → List ℕ → List (List ℕ) → Type 0
InSeq t d i j w ns = (b : ℕ) → i ≡ b + 1 → get_or t b 0 ≡ 40 → Is t 32 seq (d + 1) b j w ns

abbrev InChoice : List ℕ → ℕ → ℕ → ℕ → List ℕ → List (List ℕ) → Type 0
InChoice t d i j w ns = (b : ℕ) → i ≡ b + 1 → get_or t b 0 ≡ 40 → Is t 32 choice (d + 1) b j w ns

-- a first part, with no white space before it
seq_from : (t : List ℕ) (d i k j : ℕ) (w v : List ℕ) (ns ms : List (List ℕ)) → Is t 32 cp d i k w ns → Is t 32 (rest Seq) d k j v ms → InSeq t d i j (w ++ v) (ns ++ ms)
seq_from t d i k j w v ns ms p r = λ b e br. is_seq br refl (subst (λ (y : ℕ). While white t y i) e stop) p r

choice_from : (t : List ℕ) (d i k j : ℕ) (w v : List ℕ) (ns ms : List (List ℕ)) → Is t 32 cp d i k w ns → get_or t k 0 ≡ 124 → Is t 32 (rest Choice) d k j v ms → InChoice t d i j (w ++ v) (ns ++ ms)
choice_from t d i k j w v ns ms p h r = λ b e br. is_choice br refl (subst (λ (y : ℕ). While white t y i) e stop) p stop h r

-- a group, of either kind
abbrev Group : List ℕ → ℕ → ℕ → ℕ → List ℕ → List (List ℕ) → Type 0
Group t d i j w ns = Is t 32 seq d i j w ns ⊎ Is t 32 choice d i j w ns

-- how a part stands in any text, by its text and levels at each place, its codes and its names: as a particle that a mark may
-- follow, as a particle, and as the first part of a group
record Stands (T : Place → List ℕ) (N : Place → ℕ) (w : List ℕ) (ns : List (List ℕ)) : Type 0 where
  as_unit : (t : List ℕ) (i k d j : ℕ) (m : List ℕ) → k ≡ i + length (T Marked) → At t i (T Marked) → N Marked ≤ d → Marks t k j m → Is t 32 cp d i j (w ++ m) ns
  as_cp : (t : List ℕ) (i k d : ℕ) → k ≡ i + length (T Alone) → At t i (T Alone) → N Alone ≤ d → Is t 32 cp d i k w ns
  as_commas : (t : List ℕ) (i k d j : ℕ) (v : List ℕ) (ms : List (List ℕ)) → k ≡ i + length (T Commas) → At t i (T Commas) → N Commas ≤ d → Is t 32 (rest Seq) d k j v ms → InSeq t d i j (w ++ v) (ns ++ ms)
  as_bars : (t : List ℕ) (i k d j : ℕ) (v : List ℕ) (ms : List (List ℕ)) → k ≡ i + length (T Bars) → At t i (T Bars) → N Bars ≤ d → get_or t k 0 ≡ 124 → Is t 32 (rest Choice) d k j v ms → InChoice t d i j (w ++ v) (ns ++ ms)

abbrev Facts : Tree (List ℕ) → Type 0
Facts x = Stands (λ (p : Place). text p x) (λ (p : Place). nest p x) (postfix x) (leaves x)

-- what stands in brackets: its group reaches to k
record Bracket (t : List ℕ) (i k d : ℕ) (s : List ℕ) : Type 0 where
  opens : get_or t i 0 ≡ 40
  inside : At t (i + 1) s
  stops : get_or t (i + 1 + length s) 0 ≡ 41
  ends : k ≡ i + 1 + length s + 1
  down : d ≡ d - 1 + 1

bracket : (t : List ℕ) (i k d : ℕ) (s : List ℕ) → k ≡ i + length (grouped true s) → At t i (grouped true s) → 1 ≤ d → Bracket t i k d s
bracket t i k d s e h n =
    let q = i + 1 + length s in
    let inner' = at_tail h in
    record {
      opens = at_byte h;
      inside = at_left s (41 ∷ []) inner';
      stops = at_byte (at_right q s (41 ∷ []) refl inner');
      ends = omega (arith, length-append s (41 ∷ []));
      down = omega arith;
    }

no_code : {t : List ℕ} {s : Sym} {d i j : ℕ} (w : List ℕ) {ns : List (List ℕ)} → Is t 32 s d i j (w ++ []) ns → Is t 32 s d i j w ns
no_code {t} {s} {d} {i} {j} w {ns} r = subst (λ (l : List ℕ). Is t 32 s d i j l ns) (append-nil w) r

-- an inside that ends with its bracket
seq_group : (t : List ℕ) (i k d : ℕ) (s w : List ℕ) (ns : List (List ℕ)) → Bracket t i k d s → InSeq t (d - 1) (i + 1) (i + 1 + length s + 1) (w ++ []) (ns ++ []) → Is t 32 seq d i k w ns
seq_group t i k d s w ns b r =
    let x = r i refl b.opens in
    subst (λ (y : ℕ). Is t 32 seq y i k w ns) (sym b.down)
    (subst (λ (y : ℕ). Is t 32 seq (d - 1 + 1) i y w ns) (sym b.ends)
    (subst (λ (y : List (List ℕ)). Is t 32 seq (d - 1 + 1) i (i + 1 + length s + 1) w y) (append-nil ns) (no_code w x)))

choice_group : (t : List ℕ) (i k d : ℕ) (s w : List ℕ) (ns : List (List ℕ)) → Bracket t i k d s → InChoice t (d - 1) (i + 1) (i + 1 + length s + 1) (w ++ []) (ns ++ []) → Is t 32 choice d i k w ns
choice_group t i k d s w ns b r =
    let x = r i refl b.opens in
    subst (λ (y : ℕ). Is t 32 choice y i k w ns) (sym b.down)
    (subst (λ (y : ℕ). Is t 32 choice (d - 1 + 1) i y w ns) (sym b.ends)
    (subst (λ (y : List (List ℕ)). Is t 32 choice (d - 1 + 1) i (i + 1 + length s + 1) w y) (append-nil ns) (no_code w x)))

module _ (a b : Tree (List ℕ)) (fa : Facts a) (fb : Facts b) where
  comma_chain : (t : List ℕ) (i k d j : ℕ) (v : List ℕ) (ms : List (List ℕ)) → k ≡ i + length (text Commas a ++ (44 ∷ text Alone b)) → At t i (text Commas a ++ (44 ∷ text Alone b)) → max (nest Commas a) (nest Alone b) ≤ d → Is t 32 (rest Seq) d k j v ms → InSeq t d i j (postfix (then a b) ++ v) (leaves (then a b) ++ ms)
  comma_chain t i k d j v ms e h n r =
      let l = text Commas a in
      let q = i + length l in
      let long = length-append l (44 ∷ text Alone b) in
      let right = at_right q l (44 ∷ text Alone b) refl h in
      let second = fb.as_cp t (q + 1) k d (omega arith) (at_tail right) (omega (arith, le-max_right (nest Commas a) (nest Alone b))) in
      let first' = fa.as_commas t i q d j ((postfix b ++ (2 ∷ [])) ++ v) (leaves b ++ ms) refl (at_left l (44 ∷ text Alone b) h) (omega (arith, le-max_left (nest Commas a) (nest Alone b))) (rest_next stop (at_byte right) stop second r) in
      let codes' : postfix a ++ ((postfix b ++ (2 ∷ [])) ++ v) ≡ postfix (then a b) ++ v = sym (append_assoc (postfix a) (postfix b ++ (2 ∷ [])) v) in
      let names' : leaves a ++ (leaves b ++ ms) ≡ leaves (then a b) ++ ms = sym (append_assoc (leaves a) (leaves b) ms) in
      subst (λ (w : List ℕ). InSeq t d i j w (leaves (then a b) ++ ms)) codes' (subst (λ (w : List (List ℕ)). InSeq t d i j (postfix a ++ ((postfix b ++ (2 ∷ [])) ++ v)) w) names' first')

  bar_chain : (t : List ℕ) (i k d j : ℕ) (v : List ℕ) (ms : List (List ℕ)) → k ≡ i + length (text Bars a ++ (124 ∷ text Alone b)) → At t i (text Bars a ++ (124 ∷ text Alone b)) → max (nest Bars a) (nest Alone b) ≤ d → Is t 32 (rest Choice) d k j v ms → InChoice t d i j (postfix (either a b) ++ v) (leaves (either a b) ++ ms)
  bar_chain t i k d j v ms e h n r =
      let l = text Bars a in
      let q = i + length l in
      let long = length-append l (124 ∷ text Alone b) in
      let right = at_right q l (124 ∷ text Alone b) refl h in
      let second = fb.as_cp t (q + 1) k d (omega arith) (at_tail right) (omega (arith, le-max_right (nest Bars a) (nest Alone b))) in
      let first' = fa.as_bars t i q d j ((postfix b ++ (3 ∷ [])) ++ v) (leaves b ++ ms) refl (at_left l (124 ∷ text Alone b) h) (omega (arith, le-max_left (nest Bars a) (nest Alone b))) (at_byte right) (rest_next stop (at_byte right) stop second r) in
      let codes' : postfix a ++ ((postfix b ++ (3 ∷ [])) ++ v) ≡ postfix (either a b) ++ v = sym (append_assoc (postfix a) (postfix b ++ (3 ∷ [])) v) in
      let names' : leaves a ++ (leaves b ++ ms) ≡ leaves (either a b) ++ ms = sym (append_assoc (leaves a) (leaves b) ms) in
      subst (λ (w : List ℕ). InChoice t d i j w (leaves (either a b) ++ ms)) codes' (subst (λ (w : List (List ℕ)). InChoice t d i j (postfix a ++ ((postfix b ++ (3 ∷ [])) ++ v)) w) names' first')

  then_group : (t : List ℕ) (i k d : ℕ) → k ≡ i + length (text Alone (then a b)) → At t i (text Alone (then a b)) → nest Alone (then a b) ≤ d → Is t 32 seq d i k (postfix (then a b)) (leaves (then a b))
  then_group t i k d e h n =
      let s = text Commas a ++ (44 ∷ text Alone b) in
      let br = bracket t i k d s e h (omega arith) in
      seq_group t i k d s (postfix (then a b)) (leaves (then a b)) br (comma_chain t (i + 1) (i + 1 + length s) (d - 1) (i + 1 + length s + 1) [] [] refl br.inside (omega arith) (rest_done stop br.stops))

  either_group : (t : List ℕ) (i k d : ℕ) → k ≡ i + length (text Alone (either a b)) → At t i (text Alone (either a b)) → nest Alone (either a b) ≤ d → Is t 32 choice d i k (postfix (either a b)) (leaves (either a b))
  either_group t i k d e h n =
      let s = text Bars a ++ (124 ∷ text Alone b) in
      let br = bracket t i k d s e h (omega arith) in
      choice_group t i k d s (postfix (either a b)) (leaves (either a b)) br (bar_chain t (i + 1) (i + 1 + length s) (d - 1) (i + 1 + length s + 1) [] [] refl br.inside (omega arith) (rest_done stop br.stops))

-- a particle in brackets of its own
one_group : (t : List ℕ) (i k d : ℕ) (s w : List ℕ) (ns : List (List ℕ)) → k ≡ i + length (grouped true s) → At t i (grouped true s) → 1 ≤ d → ((q : ℕ) → q ≡ i + 1 + length s → At t (i + 1) s → Is t 32 cp (d - 1) (i + 1) q w ns) → Is t 32 seq d i k w ns
one_group t i k d s w ns e h n f =
    let br = bracket t i k d s e h n in
    seq_group t i k d s w ns br (seq_from t (d - 1) (i + 1) (i + 1 + length s) (i + 1 + length s + 1) w [] ns [] (f (i + 1 + length s) refl br.inside) (rest_done stop br.stops))

leaf_unit : (n : List ℕ) (t : List ℕ) (i k d j : ℕ) (m : List ℕ) → IsName n → k ≡ i + length n → At t i n → Marks t k j m → Is t 32 cp d i j (1 ∷ m) (n ∷ [])
leaf_unit n t i k d j m f e h mk = subst (λ (y : List ℕ). Is t 32 cp d i j (1 ∷ m) (y ∷ [])) (at_slice k n e h) (cp_name (name_at t i k n e f h) mk)

-- a part under a mark: b is the mark, c its code
module _ (b c : ℕ) (mk : MarkOf b c) (a : Tree (List ℕ)) (fa : Facts a) where
  marked_cp : (t : List ℕ) (i k d : ℕ) → k ≡ i + length (text Marked a ++ (b ∷ [])) → At t i (text Marked a ++ (b ∷ [])) → nest Marked a ≤ d → Is t 32 cp d i k (postfix a ++ (c ∷ [])) (leaves a)
  marked_cp t i k d e h n =
      let q = i + length (text Marked a) in
      let ends' : q + 1 ≡ k = omega (arith, length-append (text Marked a) (b ∷ [])) in
      let right = at_right q (text Marked a) (b ∷ []) refl h in
      let sign : MarkOf (get_or t q 0) c = subst (λ (z : ℕ). MarkOf z c) (sym (at_byte right)) mk in
      subst (λ (z : ℕ). Is t 32 cp d i z (postfix a ++ (c ∷ [])) (leaves a)) ends'
      (fa.as_unit t i q d (q + 1) (c ∷ []) refl (at_left (text Marked a) (b ∷ []) h) n (with_mark sign))

  marked_group : (t : List ℕ) (i k d : ℕ) → k ≡ i + length (grouped true (text Marked a ++ (b ∷ []))) → At t i (grouped true (text Marked a ++ (b ∷ []))) → nest Marked a + 1 ≤ d → Is t 32 seq d i k (postfix a ++ (c ∷ [])) (leaves a)
  marked_group t i k d e h n =
      one_group t i k d (text Marked a ++ (b ∷ [])) (postfix a ++ (c ∷ [])) (leaves a) e h (omega arith) (λ q z y. marked_cp t (i + 1) q (d - 1) z y (omega arith))

  marked_facts : Stands (λ (p : Place). with_sign p b (text Marked a)) (λ (p : Place). deeper (mark_opens p) (nest Marked a)) (postfix a ++ (c ∷ [])) (leaves a)
  marked_facts = record {
    as_unit = λ t i k d j m e h n z. cp_seq (marked_group t i k d e h n) z;
    as_cp = marked_cp;
    as_commas = λ t i k d j v ms e h n r. seq_from t d i k j (postfix a ++ (c ∷ [])) v (leaves a) ms (marked_cp t i k d e h n) r;
    as_bars = λ t i k d j v ms e h n z r. choice_from t d i k j (postfix a ++ (c ∷ [])) v (leaves a) ms (marked_cp t i k d e h n) z r;
  }

facts : (x : Tree (List ℕ)) → Named x → Facts x
facts empty f = absurd f
facts (leaf n) f =
    record {
      as_unit = λ t i k d j m e h z mk. leaf_unit n t i k d j m f e h mk;
      as_cp = λ t i k d e h z. leaf_unit n t i k d k [] f e h unmarked;
      as_commas = λ t i k d j v ms e h z r. seq_from t d i k j (1 ∷ []) v (n ∷ []) ms (leaf_unit n t i k d k [] f e h unmarked) r;
      as_bars = λ t i k d j v ms e h z b r. choice_from t d i k j (1 ∷ []) v (n ∷ []) ms (leaf_unit n t i k d k [] f e h unmarked) b r;
    }
facts (then a b) f =
    let u = then_group a b (facts a f.0) (facts b f.1) in
    record {
      as_unit = λ t i k d j m e h n mk. cp_seq (u t i k d e h n) mk;
      as_cp = λ t i k d e h n. no_code (postfix (then a b)) (cp_seq (u t i k d e h n) unmarked);
      as_commas = comma_chain a b (facts a f.0) (facts b f.1);
      as_bars = λ t i k d j v ms e h n c r. choice_from t d i k j (postfix (then a b)) v (leaves (then a b)) ms (no_code (postfix (then a b)) (cp_seq (u t i k d e h n) unmarked)) c r;
    }
facts (either a b) f =
    let u = either_group a b (facts a f.0) (facts b f.1) in
    record {
      as_unit = λ t i k d j m e h n mk. cp_choice (u t i k d e h n) mk;
      as_cp = λ t i k d e h n. no_code (postfix (either a b)) (cp_choice (u t i k d e h n) unmarked);
      as_commas = λ t i k d j v ms e h n r. seq_from t d i k j (postfix (either a b)) v (leaves (either a b)) ms (no_code (postfix (either a b)) (cp_choice (u t i k d e h n) unmarked)) r;
      as_bars = λ t i k d j v ms e h n c r. bar_chain a b (facts a f.0) (facts b f.1) t i k d j v ms e h n r;
    }
facts (maybe a) f = marked_facts 63 4 (is_query refl refl) a (facts a f)
facts (many a) f = marked_facts 42 5 (is_star refl refl) a (facts a f)
facts (some a) f = marked_facts 43 6 (is_plus refl refl) a (facts a f)

all_at : (t : List ℕ) → At t 0 t
all_at t = record { front = []; back = []; whole = sym (append-nil t); place = refl }

model_of : (t w : List ℕ) (ns : List (List ℕ)) → ContentSpec t 32 16 0 (length t) w ns → Model t 32 16 w ns
model_of t w ns s = record { from = 0; to = length t; before = stop; spec = s; after = stop }

children : {t : List ℕ} {k j : ℕ} {w m : List ℕ} {ns : List (List ℕ)} → Group t 16 0 k w ns → Marks t k j m → ContentSpec t 32 16 0 j (w ++ m) ns
children (inl r) k = children_seq r k
children (inr r) k = children_choice r k

-- a group is a model
group_model : (t w : List ℕ) (ns : List (List ℕ)) → Group t 16 0 (length t) w ns → Model t 32 16 w ns
group_model t w ns r = model_of t w ns (subst (λ (l : List ℕ). ContentSpec t 32 16 0 (length t) l ns) (append-nil w) (children r unmarked))

-- and so is a group with its mark
marked_model : (b c : ℕ) → MarkOf b c → (g w : List ℕ) (ns : List (List ℕ)) → Group (g ++ (b ∷ [])) 16 0 (length g) w ns → Model (g ++ (b ∷ [])) 32 16 (w ++ (c ∷ [])) ns
marked_model b c mk g w ns r =
    let t = g ++ (b ∷ []) in
    let byte = at_byte (at_right (length g) g (b ∷ []) (omega arith) (all_at t)) in
    let sign : MarkOf (get_or t (length g) 0) c = subst (λ (z : ℕ). MarkOf z c) (sym byte) mk in
    let ends' : length g + 1 ≡ length t = omega (arith, length-append g (b ∷ [])) in
    model_of t (w ++ (c ∷ [])) ns (children r (subst (λ (j : ℕ). Marks t (length g) j (c ∷ [])) ends' (with_mark sign)))

-- text that begins as a name is bracketed
pub bare_text : (s : List ℕ) → start (get_or s 0 0) ≡ true → bracketed s ≡ grouped true s
bare_text s h = ap (λ (v : Bool). cond v s (grouped true s)) (ne_eqb (get_or s 0 0) 40 apart)
  where
    apart : get_or s 0 0 ≡ 40 → ⊥
    apart e = let z : ◌≡◌ {A = ℕ} 1 0 = ap (λ (v : Bool). cond v 0 1) (sym (ap start e) ∙ h) in omega arith

pub name_first : (n s : List ℕ) → IsName n → start (get_or (n ++ s) 0 0) ≡ true
name_first [] s f = let z : ◌≤◌ 1 0 = f.0 in absurd (omega arith)
name_first (b ∷ n) s f = f.2 0 (omega arith)

leaf_round : (n : List ℕ) → IsName n → Model (bracketed n) 32 16 (1 ∷ []) (n ∷ [])
leaf_round n f =
    let t = grouped true n in
    let e : bracketed n ≡ t = bare_text n (subst (λ (s : List ℕ). start (get_or s 0 0) ≡ true) (append-nil n) (name_first n [] f)) in
    subst (λ (s : List ℕ). Model s 32 16 (1 ∷ []) (n ∷ [])) (sym e)
    (group_model t (1 ∷ []) (n ∷ []) (inl (one_group t 0 (length t) 16 n (1 ∷ []) (n ∷ []) (omega arith) (all_at t) (omega arith) (λ q z y. leaf_unit n t 1 q 15 q [] f z y unmarked))))

-- a part with its mark; the part is a group of its own unless it is a name
module _ (b c : ℕ) (mk : MarkOf b c) where
  -- the part itself ends in the mark l
  twice_round : (l m : ℕ) → MarkOf l m → (a : Tree (List ℕ)) → Facts a → nest Marked a + 1 ≤ 16 → Model (grouped true (text Marked a ++ (l ∷ [])) ++ (b ∷ [])) 32 16 ((postfix a ++ (m ∷ [])) ++ (c ∷ [])) (leaves a)
  twice_round l m ml a fa h =
      let g = grouped true (text Marked a ++ (l ∷ [])) in
      marked_model b c mk g (postfix a ++ (m ∷ [])) (leaves a)
      (inl (marked_group l m ml a fa (g ++ (b ∷ [])) 0 (length g) 16 (omega arith) (at_left g (b ∷ []) (all_at (g ++ (b ∷ [])))) h))

  marked_round : (a : Tree (List ℕ)) → Named a → nest Marked a ≤ 16 → Model (bracketed (text Marked a ++ (b ∷ []))) 32 16 (postfix a ++ (c ∷ [])) (leaves a)
  marked_round empty f h = absurd f
  marked_round (leaf n) f h =
      let s = n ++ (b ∷ []) in
      let t = grouped true s in
      subst (λ (s : List ℕ). Model s 32 16 (1 ∷ (c ∷ [])) (n ∷ [])) (sym (bare_text s (name_first n (b ∷ []) f)))
      (group_model t (1 ∷ (c ∷ [])) (n ∷ []) (inl (marked_group b c mk (leaf n) (facts (leaf n) f) t 0 (length t) 16 (omega arith) (all_at t) (omega arith))))
  marked_round (then l r) f h =
      let g = text Marked (then l r) in
      marked_model b c mk g (postfix (then l r)) (leaves (then l r))
      (inl (then_group l r (facts l f.0) (facts r f.1) (g ++ (b ∷ [])) 0 (length g) 16 (omega arith) (at_left g (b ∷ []) (all_at (g ++ (b ∷ [])))) h))
  marked_round (either l r) f h =
      let g = text Marked (either l r) in
      marked_model b c mk g (postfix (either l r)) (leaves (either l r))
      (inr (either_group l r (facts l f.0) (facts r f.1) (g ++ (b ∷ [])) 0 (length g) 16 (omega arith) (at_left g (b ∷ []) (all_at (g ++ (b ∷ [])))) h))
  marked_round (maybe a) f h = twice_round 63 4 (is_query refl refl) a (facts a f) h
  marked_round (many a) f h = twice_round 42 5 (is_star refl refl) a (facts a f) h
  marked_round (some a) f h = twice_round 43 6 (is_plus refl refl) a (facts a f) h

-- what is written for a tree of names, at most sixteen levels deep, reads back to its codes and names
pub round_trip : (x : Tree (List ℕ)) → Named x → nest Alone x ≤ 16 → Model (written x) 32 16 (postfix x) (leaves x)
round_trip empty f h = absurd f
round_trip (leaf n) f h = leaf_round n f
round_trip (then l r) f h =
    let t = text Alone (then l r) in
    group_model t (postfix (then l r)) (leaves (then l r)) (inl (then_group l r (facts l f.0) (facts r f.1) t 0 (length t) 16 (omega arith) (all_at t) h))
round_trip (either l r) f h =
    let t = text Alone (either l r) in
    group_model t (postfix (either l r)) (leaves (either l r)) (inr (either_group l r (facts l f.0) (facts r f.1) t 0 (length t) 16 (omega arith) (all_at t) h))
round_trip (maybe a) f h = marked_round 63 4 (is_query refl refl) a f h
round_trip (many a) f h = marked_round 42 5 (is_star refl refl) a f h
round_trip (some a) f h = marked_round 43 6 (is_plus refl refl) a f h

pub empty_reads : Model (codes "EMPTY") 32 16 (0 ∷ []) []
empty_reads = record { from = 0; to = 5; before = stop; spec = grammar.empty refl; after = stop }
