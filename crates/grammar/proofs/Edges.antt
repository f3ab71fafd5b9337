-- Where a part begins by the productions, and what stands right behind it. Assumes nothing.
use Rattle.std.proofs.Common.{◌≡◌, ℕ, ◌+◌, ◌<◌, true, false, ◌⊎◌, List, length, get_or, drop, codes, sym, refl, ap, ◌∙◌, subst, inl, inr, ⊎_elim, arith}
use Rattle.std.proofs.lemmas.List.{get_or_past, get_or-take, get_or-drop}
use Rattle.std.proofs.lemmas.Bool.Decides.{nat_tests}
use Rattle.symbols.specs.Rule.{start, inner}
use Rattle.tokens.specs.Bytes.{white}
use Rattle.tokens.specs.Tokens.{Tok, word, pcdata, opens, closes, bar, comma, stray, end, tok, While, stop, on, slice}
use Rattle.tokens.proofs.Runs.{not_both, tok_past}
use Rattle.tokens.proofs.Signs.{tok_word, tok_white, tok_pcdata, tok_open, tok_close, tok_bar, tok_comma}
use Rattle.grammar.specs.declared.Chain.{Chain}
use Rattle.grammar.specs.declared.Chain.TheVariants.{Choice, Seq}
use Rattle.grammar.specs.Grammar.{sign, MarkOf, is_query, is_star, is_plus, Marks, unmarked, with_mark, cp, choice, seq, rest, Is, cp_name, cp_choice, cp_seq, is_choice, is_seq, rest_done, rest_next, Listed, listed_done, listed_next}
use Rattle.grammar.specs.Reads.{MarkTok, query_4, star_5, plus_6}
use Rattle.grammar.proofs.Tokens.{plain, take_begins, slice_at, hash_byte}

-- two tokens at one place
pub clash : {k : Tok} → k ≡ word → k ≡ opens → ⊥
clash a b = let z : ◌≡◌ {A = ℕ} 0 1 = cc in omega arith

-- nothing at j goes on with what ends there
pub record Closed (t : List ℕ) (j : ℕ) : Type 0 where
  pub no_mark : (m : ℕ) → MarkTok (tok t j) m → ⊥
  pub no_inner : inner (get_or t j 0) ≡ false

pub closed : (t : List ℕ) (j : ℕ) (k : Tok) → tok t j ≡ k → plain k ≡ true → inner (get_or t j 0) ≡ false → Closed t j
closed t j k e p h = record { no_mark = go; no_inner = h }
  where
    go : (m : ℕ) → MarkTok (tok t j) m → ⊥
    go m (query_4 f _) = not_both p (ap plain (sym e ∙ f))
    go m (star_5 f _) = not_both p (ap plain (sym e ∙ f))
    go m (plus_6 f _) = not_both p (ap plain (sym e ∙ f))

pub white_outer : (b : ℕ) → white b ≡ true → inner b ≡ false
white_outer b h = grind (arith, nat_tests)

pub start_black : (b : ℕ) → start b ≡ true → white b ≡ false
start_black b h = grind (arith, nat_tests)

pub white_closed : (t : List ℕ) (j : ℕ) → white (get_or t j 0) ≡ true → Closed t j
white_closed t j h = closed t j stray (tok_white t j h) refl (white_outer (get_or t j 0) h)

pub close_closed : (t : List ℕ) (j : ℕ) → get_or t j 0 ≡ 41 → Closed t j
close_closed t j e = closed t j closes (tok_close t j e) refl (ap inner e)

pub sign_closed : (t : List ℕ) (j : ℕ) (g : Chain) → get_or t j 0 ≡ sign g → Closed t j
sign_closed t j Choice e = closed t j bar (tok_bar t j e) refl (ap inner e)
sign_closed t j Seq e = closed t j comma (tok_comma t j e) refl (ap inner e)

pub sign_black : (b : ℕ) (g : Chain) → b ≡ sign g → white b ≡ false
sign_black b Choice e = ap white e
sign_black b Seq e = ap white e

pub at_end : (t : List ℕ) → Closed t (length t)
at_end t = closed t (length t) end (tok_past t (length t) (omega arith)) refl (ap inner (get_or_past t (length t) 0 (omega arith)))

pub after_white : (t : List ℕ) {i j : ℕ} → While white t i j → Closed t j → Closed t i
after_white t stop c = c
after_white t {i} (on e r) c = white_closed t i e

pub one_code : {k : Tok} {m n : ℕ} → MarkTok k m → MarkTok k n → m ≡ n
one_code (query_4 a e) (query_4 b f) = cc
one_code (query_4 a e) (star_5 b f) = absurd (let z : ◌≡◌ {A = ℕ} 0 1 = cc in omega arith)
one_code (query_4 a e) (plus_6 b f) = absurd (let z : ◌≡◌ {A = ℕ} 0 1 = cc in omega arith)
one_code (star_5 a e) (query_4 b f) = absurd (let z : ◌≡◌ {A = ℕ} 0 1 = cc in omega arith)
one_code (star_5 a e) (star_5 b f) = cc
one_code (star_5 a e) (plus_6 b f) = absurd (let z : ◌≡◌ {A = ℕ} 0 1 = cc in omega arith)
one_code (plus_6 a e) (query_4 b f) = absurd (let z : ◌≡◌ {A = ℕ} 0 1 = cc in omega arith)
one_code (plus_6 a e) (star_5 b f) = absurd (let z : ◌≡◌ {A = ℕ} 0 1 = cc in omega arith)
one_code (plus_6 a e) (plus_6 b f) = cc

pub mark_outside : {b m : ℕ} → MarkOf b m → inner b ≡ false
mark_outside (is_query e _) = ap inner e
mark_outside (is_star e _) = ap inner e
mark_outside (is_plus e _) = ap inner e

pub marks_outside : (t : List ℕ) {k j : ℕ} {m : List ℕ} → Marks t k j m → Closed t j → inner (get_or t k 0) ≡ false
marks_outside t unmarked c = c.no_inner
marks_outside t (with_mark h) c = mark_outside h

-- the first sign behind a part
pub head_rest : (t : List ℕ) {n d k j : ℕ} {g : Chain} {v : List ℕ} {ms : List (List ℕ)} → Is t n (rest g) d k j v ms →
    (l : ℕ) × While white t k l × ((get_or t l 0 ≡ 41) ⊎ (get_or t l 0 ≡ sign g))
head_rest t (rest_done {l = l} r e) = (l, r, inl e)
head_rest t (rest_next {l = l} r e _ _ _) = (l, r, inr e)

pub after_cp : (t : List ℕ) {n d k j : ℕ} (g : Chain) {v : List ℕ} {ms : List (List ℕ)} → Is t n (rest g) d k j v ms →
    Closed t k
after_cp t g r = let h = head_rest t r in after_white t h.1 (⊎_elim (λ e. close_closed t h.0 e) (λ e. sign_closed t h.0 g e) h.2)

-- where a group opens, and its first part
pub record Head (t : List ℕ) (d i : ℕ) : Type 0 where
  pub level : ℕ
  pub down : d ≡ level + 1
  pub bracket : get_or t i 0 ≡ 40
  pub begin : ℕ
  pub before : While white t (i + 1) begin
  pub black : white (get_or t begin 0) ≡ false
  pub part : (tok t begin ≡ word) ⊎ (tok t begin ≡ opens)

-- a particle begins at b
pub record Begins (t : List ℕ) (b : ℕ) : Type 0 where
  pub black : white (get_or t b 0) ≡ false
  pub part : (tok t b ≡ word) ⊎ (tok t b ≡ opens)

pub bracket_choice : {t : List ℕ} {n d i j : ℕ} {w : List ℕ} {ns : List (List ℕ)} → Is t n choice d i j w ns →
    get_or t i 0 ≡ 40
bracket_choice (is_choice br _ _ _ _ _ _) = br

pub bracket_seq : {t : List ℕ} {n d i j : ℕ} {w : List ℕ} {ns : List (List ℕ)} → Is t n seq d i j w ns → get_or t i 0 ≡ 40
bracket_seq (is_seq br _ _ _ _) = br

pub head_cp : {t : List ℕ} {n d i j : ℕ} {w : List ℕ} {ns : List (List ℕ)} → Is t n cp d i j w ns → Begins t i
head_cp {t} {n} {d} {i} (cp_name nm _) = record { black = start_black (get_or t i 0) nm.first; part = inl (tok_word t i nm.first) }
head_cp {t} {n} {d} {i} (cp_choice r _) = record { black = ap white (bracket_choice r); part = inr (tok_open t i (bracket_choice r)) }
head_cp {t} {n} {d} {i} (cp_seq r _) = record { black = ap white (bracket_seq r); part = inr (tok_open t i (bracket_seq r)) }

pub head_choice : {t : List ℕ} {n d i j : ℕ} {w : List ℕ} {ns : List (List ℕ)} → Is t n choice d i j w ns → Head t d i
head_choice (is_choice {e = x} {b = b} br de a p u e q) = let h = head_cp p in record { level = x; down = de; bracket = br; begin = b; before = a; black = h.black; part = h.part }

pub head_seq : {t : List ℕ} {n d i j : ℕ} {w : List ℕ} {ns : List (List ℕ)} → Is t n seq d i j w ns → Head t d i
head_seq (is_seq {e = x} {b = b} br de a p q) = let h = head_cp p in record { level = x; down = de; bracket = br; begin = b; before = a; black = h.black; part = h.part }

pub listed_outside : (t : List ℕ) {n k j : ℕ} {v : List ℕ} {ms : List (List ℕ)} → Listed t n k j v ms →
    inner (get_or t k 0) ≡ false
listed_outside t (listed_done {l = l} a e) = (after_white t a (close_closed t l e)).no_inner
listed_outside t (listed_next {l = l} a e _ _ _) = (after_white t a (sign_closed t l Choice e)).no_inner

-- EMPTY
pub letter : (t : List ℕ) (b m i : ℕ) → slice t b (b + 5) ≡ codes "EMPTY" → m < 5 → i ≡ b + m →
    get_or t i 0 ≡ get_or (codes "EMPTY") m 0
letter t b m i e h z =
    ap (λ (x : ℕ). get_or t x 0) z ∙ sym (get_or-take 5 (drop b t) m 0 h ∙ get_or-drop b t m 0) ∙ ap (λ (l : List ℕ). get_or l m 0) (sym (slice_at t b 5) ∙ e)

pub empty_run : (t : List ℕ) (b : ℕ) → slice t b (b + 5) ≡ codes "EMPTY" → While inner t (b + 1) (b + 5)
empty_run t b e =
    let two : b + 1 + 1 ≡ b + 2 = omega arith in
    let three : b + 1 + 1 + 1 ≡ b + 3 = omega arith in
    let four : b + 1 + 1 + 1 + 1 ≡ b + 4 = omega arith in
    let five : b + 1 + 1 + 1 + 1 + 1 ≡ b + 5 = omega arith in
    subst (λ (y : ℕ). While inner t (b + 1) y) five
    (on (ap inner (letter t b 1 (b + 1) e (omega arith) refl)) (on (ap inner (letter t b 2 (b + 1 + 1) e (omega arith) two)) (on (ap inner (letter t b 3 (b + 1 + 1 + 1) e (omega arith) three)) (on (ap inner (letter t b 4 (b + 1 + 1 + 1 + 1) e (omega arith) four)) stop))))

pub empty_start : (t : List ℕ) (b : ℕ) → slice t b (b + 5) ≡ codes "EMPTY" → start (get_or t b 0) ≡ true
empty_start t b e = ap start (letter t b 0 b e (omega arith) (omega arith))

-- #PCDATA
pub pcdata_tok : (t : List ℕ) (y : ℕ) → slice t y (y + 7) ≡ codes "#PCDATA" → tok t y ≡ pcdata
pcdata_tok t y e = tok_pcdata t y (hash_byte t y e) (take_begins (codes "#PCDATA") (drop y t) (sym (slice_at t y 7) ∙ e))

pub no_pcdata : {k : Tok} → (k ≡ word) ⊎ (k ≡ opens) → k ≡ pcdata → ⊥
no_pcdata (inl a) b = let z : ◌≡◌ {A = ℕ} 0 1 = cc in omega arith
no_pcdata (inr a) b = let z : ◌≡◌ {A = ℕ} 0 1 = cc in omega arith
