-- Tokens, and what stands where they do. Assumes nothing.
use Rattle.std.proofs.Common.{◌≡◌, ℕ, ◌+◌, ◌-◌, ◌<◌, ◌≤◌, Bool, true, false, cond, eqb, List, [], ◌∷◌, length, get_or, take, drop, codes, sym, refl, ap, ◌∙◌, ⊎_elim, arith, length-drop, length-take-le}
use Rattle.std.proofs.lemmas.List.{get_or_past, get_or-take, get_or-drop}
use Rattle.std.proofs.lemmas.Bool.Decides.{nat_tests}
use Rattle.std.proofs.str.Laws.{order}
use Rattle.symbols.specs.Rule.{start, inner}
use Rattle.tokens.specs.Bytes.{class_of}
use Rattle.tokens.specs.Tokens.{Tok, word, pcdata, opens, closes, bar, comma, query, star, plus, stray, strange, end, tok, While, slice, begins, pcdata_at, by_class}
use Rattle.tokens.specs.declared.types.Class.{Class}
use Rattle.tokens.specs.declared.types.Class.TheVariants.{NameStart, NameOnly, White, Open, Close, Bar, Comma, Query, Star, Plus, Hash, Other}
use Rattle.tokens.proofs.Runs.{not_both, run_inside, tok_in}
use Rattle.tokens.proofs.Signs.{Says, tok_says, tok_bar, tok_comma, tok_star, tok_query, tok_plus}
use Rattle.grammar.specs.declared.Chain.{Chain}
use Rattle.grammar.specs.declared.Chain.TheVariants.{Choice, Seq}
use Rattle.grammar.specs.Grammar.{sign, MarkOf, is_query, is_star, is_plus}
use Rattle.grammar.specs.Reads.{joins, chain_of_tok, MarkTok, query_4, star_5, plus_6}

-- the byte of a sign
pub joined : (g : Chain) (k : Tok) (b : ℕ) (p : Bool) → joins g k ≡ true → Says k b p → b ≡ sign g
joined Choice word b p e s = absurd (not_both e refl)
joined Choice pcdata b p e s = absurd (not_both e refl)
joined Choice opens b p e s = absurd (not_both e refl)
joined Choice closes b p e s = absurd (not_both e refl)
joined Choice bar b p e s = s
joined Choice comma b p e s = absurd (not_both e refl)
joined Choice query b p e s = absurd (not_both e refl)
joined Choice star b p e s = absurd (not_both e refl)
joined Choice plus b p e s = absurd (not_both e refl)
joined Choice stray b p e s = absurd (not_both e refl)
joined Choice strange b p e s = absurd (not_both e refl)
joined Choice end b p e s = absurd (not_both e refl)
joined Seq word b p e s = absurd (not_both e refl)
joined Seq pcdata b p e s = absurd (not_both e refl)
joined Seq opens b p e s = absurd (not_both e refl)
joined Seq closes b p e s = absurd (not_both e refl)
joined Seq bar b p e s = absurd (not_both e refl)
joined Seq comma b p e s = s
joined Seq query b p e s = absurd (not_both e refl)
joined Seq star b p e s = absurd (not_both e refl)
joined Seq plus b p e s = absurd (not_both e refl)
joined Seq stray b p e s = absurd (not_both e refl)
joined Seq strange b p e s = absurd (not_both e refl)
joined Seq end b p e s = absurd (not_both e refl)

-- the sign of a choice
pub chain_bar : (k : Tok) → Choice ≡ chain_of_tok k → k ≡ bar
chain_bar word e = absurd (let z : ◌≡◌ {A = ℕ} 0 1 = cc in omega arith)
chain_bar pcdata e = absurd (let z : ◌≡◌ {A = ℕ} 0 1 = cc in omega arith)
chain_bar opens e = absurd (let z : ◌≡◌ {A = ℕ} 0 1 = cc in omega arith)
chain_bar closes e = absurd (let z : ◌≡◌ {A = ℕ} 0 1 = cc in omega arith)
chain_bar bar e = refl
chain_bar comma e = absurd (let z : ◌≡◌ {A = ℕ} 0 1 = cc in omega arith)
chain_bar query e = absurd (let z : ◌≡◌ {A = ℕ} 0 1 = cc in omega arith)
chain_bar star e = absurd (let z : ◌≡◌ {A = ℕ} 0 1 = cc in omega arith)
chain_bar plus e = absurd (let z : ◌≡◌ {A = ℕ} 0 1 = cc in omega arith)
chain_bar stray e = absurd (let z : ◌≡◌ {A = ℕ} 0 1 = cc in omega arith)
chain_bar strange e = absurd (let z : ◌≡◌ {A = ℕ} 0 1 = cc in omega arith)
chain_bar end e = absurd (let z : ◌≡◌ {A = ℕ} 0 1 = cc in omega arith)

-- a token that is no mark
abbrev pub plain : Tok → Bool
plain word = true
plain pcdata = true
plain opens = true
plain closes = true
plain bar = true
plain comma = true
plain query = false
plain star = false
plain plus = false
plain stray = true
plain strange = true
plain end = true

-- the sign of a chain
pub tok_joins : (t : List ℕ) (i : ℕ) (g : Chain) → get_or t i 0 ≡ sign g → joins g (tok t i) ≡ true
tok_joins t i Choice e = ap (joins Choice) (tok_bar t i e)
tok_joins t i Seq e = ap (joins Seq) (tok_comma t i e)

pub joins_close : (g : Chain) → joins g closes ≡ false
joins_close Choice = refl
joins_close Seq = refl

-- marks
pub mark_tok : (t : List ℕ) (i : ℕ) {m : ℕ} → MarkOf (get_or t i 0) m → MarkTok (tok t i) m
mark_tok t i (is_query e f) = query_4 (tok_query t i e) f
mark_tok t i (is_star e f) = star_5 (tok_star t i e) f
mark_tok t i (is_plus e f) = plus_6 (tok_plus t i e) f

pub mark_byte : (t : List ℕ) (i : ℕ) {m : ℕ} → MarkTok (tok t i) m → MarkOf (get_or t i 0) m
mark_byte t i (query_4 e f) = is_query (tok_says t i query e) f
mark_byte t i (star_5 e f) = is_star (tok_says t i star e) f
mark_byte t i (plus_6 e f) = is_plus (tok_says t i plus e) f

-- words in the text
begins_take : (w s : List ℕ) → begins w s ≡ true → take (length w) s ≡ w
begins_take [] s e = refl
begins_take (x ∷ w) [] e = absurd (not_both e refl)
begins_take (x ∷ w) (b ∷ s) e = go (λ h. begins_take w s h) e
  where
    same_byte : (v : Bool) → cond v (begins w s) false ≡ true → (v ≡ true) × (begins w s ≡ true)
    same_byte true h = (refl, h)
    same_byte false h = absurd (not_both h refl)

    go : (begins w s ≡ true → take (length w) s ≡ w) → cond (eqb b x) (begins w s) false ≡ true →
        b ∷ take (length w) s ≡ x ∷ w
    go f h =
        let z = same_byte (eqb b x) h in
        let one' : b ≡ x = grind (arith, nat_tests) in
        let two : take (length w) s ≡ w = f z.1 in
        cc

pub take_begins : (w s : List ℕ) → take (length w) s ≡ w → begins w s ≡ true
take_begins [] s e = refl
take_begins (x ∷ w) [] e = absurd (let z : ◌≡◌ {A = ℕ} 0 1 = cc in omega arith)
take_begins (x ∷ w) (b ∷ s) e =
    let one' : b ≡ x = cc in
    let two : take (length w) s ≡ w = cc in
    let three = take_begins w s two in
    grind (arith, nat_tests)

-- #PCDATA
pub slice_at : (t : List ℕ) (b n : ℕ) → slice t b (b + n) ≡ take n (drop b t)
slice_at t b n = let h : b + n - b ≡ n = omega arith in ap (λ (z : ℕ). take z (drop b t)) h

pub pcdata_slice : (t : List ℕ) (b : ℕ) → tok t b ≡ pcdata → slice t b (b + 7) ≡ codes "#PCDATA"
pcdata_slice t b e = slice_at t b 7 ∙ begins_take (codes "#PCDATA") (drop b t) (tok_says t b pcdata e)

-- #PCDATA begins with '#'
pub hash_byte : (t : List ℕ) (y : ℕ) → slice t y (y + 7) ≡ codes "#PCDATA" → get_or t y 0 ≡ 35
hash_byte t y e =
    let z : y ≡ y + 0 = omega arith in
    ap (λ (x : ℕ). get_or t x 0) z ∙ sym (get_or-take 7 (drop y t) 0 0 (omega arith) ∙ get_or-drop y t 0 0) ∙ ap (λ (l : List ℕ). get_or l 0 0) (sym (slice_at t y 7) ∙ e)

-- a name stands inside the text
pub start_inside : (t : List ℕ) (b : ℕ) → start (get_or t b 0) ≡ true → b < length t
start_inside t b e = ⊎_elim (λ l. l) (λ l. absurd (not_both (ap start (sym (get_or_past t b 0 l)) ∙ e) refl)) (order b (length t))

-- a name of five bytes ends five bytes on
pub slice_end : (t : List ℕ) (b k : ℕ) → tok t b ≡ word → While inner t (b + 1) k → length (slice t b k) ≡ 5 → k ≡ b + 5
slice_end t b k s r e =
    let some : b < length t = start_inside t b (tok_says t b word s) in
    let inside : k ≤ length t = run_inside inner t refl r (omega arith) in
    let long : length (slice t b k) ≡ k - b = length-take-le (k - b) (drop b t) (omega (arith, length-drop b t)) in
    omega arith

-- the end stands at the text's length
hash : (p : Bool) → cond p pcdata stray ≡ end → ⊥
hash true e = let z : ◌≡◌ {A = ℕ} 0 1 = cc in omega arith
hash false e = let z : ◌≡◌ {A = ℕ} 0 1 = cc in omega arith

not_end : (k : Class) (p : Bool) → by_class k p ≡ end → ⊥
not_end NameStart p e = let z : ◌≡◌ {A = ℕ} 0 1 = cc in omega arith
not_end NameOnly p e = let z : ◌≡◌ {A = ℕ} 0 1 = cc in omega arith
not_end White p e = let z : ◌≡◌ {A = ℕ} 0 1 = cc in omega arith
not_end Open p e = let z : ◌≡◌ {A = ℕ} 0 1 = cc in omega arith
not_end Close p e = let z : ◌≡◌ {A = ℕ} 0 1 = cc in omega arith
not_end Bar p e = let z : ◌≡◌ {A = ℕ} 0 1 = cc in omega arith
not_end Comma p e = let z : ◌≡◌ {A = ℕ} 0 1 = cc in omega arith
not_end Query p e = let z : ◌≡◌ {A = ℕ} 0 1 = cc in omega arith
not_end Star p e = let z : ◌≡◌ {A = ℕ} 0 1 = cc in omega arith
not_end Plus p e = let z : ◌≡◌ {A = ℕ} 0 1 = cc in omega arith
not_end Hash p e = hash p e
not_end Other p e = let z : ◌≡◌ {A = ℕ} 0 1 = cc in omega arith

pub inside_not : (t : List ℕ) (l : ℕ) → l < length t → tok t l ≡ end → ⊥
inside_not t l h e = not_end (class_of (get_or t l 0)) (pcdata_at t l) (sym (tok_in t l h) ∙ e)
