-- Which byte a token begins with, and which token a byte begins. Assumes nothing.
use Rattle.std.proofs.Common.{◌≡◌, ℕ, ◌<◌, Bool, true, false, cond, eqb, List, length, get_or, sym, refl, ap, ◌∙◌, subst, ⊎_elim, arith, eqb-true}
use Rattle.std.proofs.lemmas.List.{get_or_past}
use Rattle.std.proofs.lemmas.Bool.Decides.{nat_tests}
use Rattle.std.proofs.str.Laws.{order}
use Rattle.symbols.specs.Rule.{start, only}
use Rattle.tokens.specs.Bytes.{class_of, white}
use Rattle.tokens.specs.Tokens.{Tok, word, pcdata, opens, closes, bar, comma, query, star, plus, stray, strange, end, tok, by_class, pcdata_at}
use Rattle.tokens.specs.declared.types.Class.{Class}
use Rattle.tokens.specs.declared.types.Class.TheVariants.{NameStart, NameOnly, White, Open, Close, Bar, Comma, Query, Star, Plus, Hash, Other}
use Rattle.tokens.proofs.Runs.{tok_in, tok_past}

-- what a token says of its first byte, and of #PCDATA there
abbrev pub Says : Tok → ℕ → Bool → Type 0
Says word b p = start b ≡ true
Says pcdata b p = p ≡ true
Says opens b p = b ≡ 40
Says closes b p = b ≡ 41
Says bar b p = b ≡ 124
Says comma b p = b ≡ 44
Says query b p = b ≡ 63
Says star b p = b ≡ 42
Says plus b p = b ≡ 43
Says stray b p = Unit {0}
Says strange b p = Unit {0}
Says end b p = Unit {0}

if_class : (P : Class → Type 0) (v : Bool) (k r : Class) → (v ≡ true → P k) → (v ≡ false → P r) → P (cond v k r)
if_class P true k r a b = a refl
if_class P false k r a b = b refl

hash : (b : ℕ) (p : Bool) → Says (cond p pcdata stray) b p
hash b true = refl
hash b false = tt

says_class : (b : ℕ) (p : Bool) → Says (by_class (class_of b) p) b p
says_class b p =
    let P : Class → Type 0 = λ k. Says (by_class k p) b p in
    if_class P (start b) NameStart _ (λ e. e) (λ _. if_class P (only b) NameOnly _ (λ _. tt) (λ _. if_class P (white b) White _ (λ _. tt) (λ _.
    if_class P (eqb b 40) Open _ (λ e. eqb-true b 40 e) (λ _. if_class P (eqb b 41) Close _ (λ e. eqb-true b 41 e) (λ _.
    if_class P (eqb b 124) Bar _ (λ e. eqb-true b 124 e) (λ _. if_class P (eqb b 44) Comma _ (λ e. eqb-true b 44 e) (λ _.
    if_class P (eqb b 63) Query _ (λ e. eqb-true b 63 e) (λ _. if_class P (eqb b 42) Star _ (λ e. eqb-true b 42 e) (λ _.
    if_class P (eqb b 43) Plus _ (λ e. eqb-true b 43 e) (λ _. if_class P (eqb b 35) Hash Other (λ _. hash b p) (λ _. tt)))))))))))

pub tok_says : (t : List ℕ) (i : ℕ) (k : Tok) → tok t i ≡ k → Says k (get_or t i 0) (pcdata_at t i)
tok_says t i k e =
    ⊎_elim
    (λ h. subst (λ (v : Tok). Says v (get_or t i 0) (pcdata_at t i)) (sym (tok_in t i h) ∙ e) (says_class (get_or t i 0) (pcdata_at t i)))
    (λ h. subst (λ (v : Tok). Says v (get_or t i 0) (pcdata_at t i)) (sym (tok_past t i h) ∙ e) tt)
    (order i (length t))

-- a byte that is not 0 stands inside the text
pub byte_inside : (t : List ℕ) (i b : ℕ) → get_or t i 0 ≡ b → 0 < b → i < length t
byte_inside t i b e h = ⊎_elim (λ l. l) (λ l. absurd (let z = get_or_past t i 0 l in omega arith)) (order i (length t))

pub tok_of : (t : List ℕ) (i b : ℕ) (k : Class) → get_or t i 0 ≡ b → 0 < b → class_of b ≡ k →
    tok t i ≡ by_class k (pcdata_at t i)
tok_of t i b k e h f = tok_in t i (byte_inside t i b e h) ∙ ap (λ (v : Class). by_class v (pcdata_at t i)) (ap class_of e ∙ f)

start_some : (b : ℕ) → start b ≡ true → 0 < b
start_some b h = grind (arith, nat_tests)

white_some : (b : ℕ) → white b ≡ true → 0 < b
white_some b h = grind (arith, nat_tests)

pub tok_word : (t : List ℕ) (i : ℕ) → start (get_or t i 0) ≡ true → tok t i ≡ word
tok_word t i e = tok_of t i (get_or t i 0) NameStart refl (start_some (get_or t i 0) e) (rw e refl)

white_other : (b : ℕ) → white b ≡ true → start b ≡ false
white_other b h = grind (arith, nat_tests)

white_other' : (b : ℕ) → white b ≡ true → only b ≡ false
white_other' b h = grind (arith, nat_tests)

third : (u v x : Bool) (a b k r : Class) → u ≡ false → v ≡ false → x ≡ true → cond u a (cond v b (cond x k r)) ≡ k
third u v x a b k r p q s = rw (p, q, s) refl

pub tok_white : (t : List ℕ) (i : ℕ) → white (get_or t i 0) ≡ true → tok t i ≡ stray
tok_white t i e =
    let b = get_or t i 0 in
    tok_of t i b White refl (white_some b e) (third (start b) (only b) (white b) NameStart NameOnly White _ (white_other b e) (white_other' b e) e)

pub tok_pcdata : (t : List ℕ) (i : ℕ) → get_or t i 0 ≡ 35 → pcdata_at t i ≡ true → tok t i ≡ pcdata
tok_pcdata t i e p = tok_of t i 35 Hash e (omega arith) refl ∙ ap (λ (v : Bool). cond v pcdata stray) p

pub tok_open : (t : List ℕ) (i : ℕ) → get_or t i 0 ≡ 40 → tok t i ≡ opens
tok_open t i e = tok_of t i 40 Open e (omega arith) refl

pub tok_close : (t : List ℕ) (i : ℕ) → get_or t i 0 ≡ 41 → tok t i ≡ closes
tok_close t i e = tok_of t i 41 Close e (omega arith) refl

pub tok_bar : (t : List ℕ) (i : ℕ) → get_or t i 0 ≡ 124 → tok t i ≡ bar
tok_bar t i e = tok_of t i 124 Bar e (omega arith) refl

pub tok_comma : (t : List ℕ) (i : ℕ) → get_or t i 0 ≡ 44 → tok t i ≡ comma
tok_comma t i e = tok_of t i 44 Comma e (omega arith) refl

pub tok_query : (t : List ℕ) (i : ℕ) → get_or t i 0 ≡ 63 → tok t i ≡ query
tok_query t i e = tok_of t i 63 Query e (omega arith) refl

pub tok_star : (t : List ℕ) (i : ℕ) → get_or t i 0 ≡ 42 → tok t i ≡ star
tok_star t i e = tok_of t i 42 Star e (omega arith) refl

pub tok_plus : (t : List ℕ) (i : ℕ) → get_or t i 0 ≡ 43 → tok t i ≡ plus
tok_plus t i e = tok_of t i 43 Plus e (omega arith) refl
