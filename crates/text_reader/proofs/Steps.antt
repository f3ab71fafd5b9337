-- One step of the reader. Assumes nothing.
use Rattle.std.proofs.Common.{◌≡◌, ℕ, ◌+◌, ◌<◌, ◌≤◌, true, false, List, [], ◌∷◌, ◌++◌, length, Ok, Err, codes, Result, sym, refl, ap, ◌∙◌, subst, inl, inr, arith, Bor}
use Rattle.faults.specs.declared.Fault.{Fault}
use Rattle.tokens.specs.Tokens.{Tok, word, pcdata, opens, closes, bar, comma, query, star, plus, stray, strange, end, tok, token_of, Held, Peeked}
use Rattle.tokens.specs.declared.types.Token.{Token}
use Rattle.tokens.specs.declared.types.Token.TheVariants.{Name, Pcdata, Open, Close, Bar, Comma, Query, Star, Plus, Stray, Other, End}
use Rattle.tokens.specs.declared.types.Piece.{Piece}
use Rattle.grammar.specs.declared.Chain.{Chain}
use Rattle.grammar.specs.Grammar.{code}
use Rattle.grammar.specs.Reads.{Cause, long_name, too_many, cannot, joins, chain_of_tok, Mark, Outcome, good, bad, Part, particle, body, onward, named, listed, Reads, p_name, p_long, p_many, p_group, b_goes_on, o_done, o_bad, o_next, o_none, n_name, n_long, n_many, l_done, l_bad, l_next, Mixes, x_text, x_star, x_name_bad, x_list_bad, x_names, x_no_star, Opens, c_empty, c_word, c_mixed, c_children, c_bad, Whole, w_good, w_left}
use Rattle.text_reader.specs.declared.output.Output.{Output}
use Rattle.text_reader.specs.Answer.{fault_of}
use Rattle.text_reader.specs.Output.{names_in, Holds, Grew}
use Rattle.text_reader.specs.Parts.{Refuses, Read, Did, DidMark, DidMix, DidOpen, DidWhole, Keeps}
use Rattle.text_reader.specs.Readers.{Moves, Marks}
use Rattle.text_reader.specs.declared.reader.Reader.{Reader}
use Rattle.text_reader.proofs.Outputs.{both, with_codes, still}

-- the reader o goes on as p over the same text, and its answer is p's
pub passes : (R Q : List ℕ → ℕ → Output → Result ℕ Fault → Output → Type 0) (o p q : Reader) (x : Result (Unit {0}) Fault) →
    p.text.now ≡ o.text.now →
    ((y : Result ℕ Fault) → R o.text.now p.at p.out y q.out → Q o.text.now o.at o.out y q.out) → Moves R p x q → Moves Q o x q
passes R Q o p q (Ok u) s f m = (f (Ok q.at) (subst (λ (t : List ℕ). R t p.at p.out (Ok q.at) q.out) s m.0), m.1 ∙ s)
passes R Q o p q (Err x) s f m = f (Err x) (subst (λ (t : List ℕ). R t p.at p.out (Err x) q.out) s m)

-- the mark behind what the reader o went over to become p
pub mark_behind : (o p v q : Reader) → v ≡ p → p.text.now ≡ o.text.now → Marks v q →
    DidMark o.text.now p.at p.out q.at q.out × (q.text.now ≡ o.text.now)
mark_behind o p v q e s m =
    let k : Marks p q = subst (λ (u : Reader). Marks u q) e m in
    (subst (λ (t : List ℕ). DidMark t p.at p.out q.at q.out) s k.0, k.1 ∙ s)

-- which token a kind of token is
abbrev pub Was : Tok → Token → Type 0
Was word x = (n : Bor (List ℕ)) × (x ≡ Name n)
Was pcdata x = x ≡ Pcdata
Was opens x = x ≡ Open
Was closes x = x ≡ Close
Was bar x = x ≡ Bar
Was comma x = x ≡ Comma
Was query x = x ≡ Query
Was star x = x ≡ Star
Was plus x = x ≡ Plus
Was stray x = x ≡ Stray
Was strange x = x ≡ Other
Was end x = x ≡ End

was : (x : Token) → Was (token_of x) x
was (Name n) = (n, refl)
was Pcdata = refl
was Open = refl
was Close = refl
was Bar = refl
was Comma = refl
was Query = refl
was Star = refl
was Plus = refl
was Stray = refl
was Other = refl
was End = refl

pub again : (x : Token) (k : Tok) → token_of x ≡ k → Was k x
again x k e = subst (λ (v : Tok). Was v x) e (was x)

-- what is known of the next token
pub seen : {t : List ℕ} {i : ℕ} (r : Piece) (k : Tok) → Peeked t i r → tok t r.at ≡ k → Was k r.token
seen r k p e = again r.token k (p.is ∙ e)

pub is_tok : {t : List ℕ} {i : ℕ} (r : Piece) (x : Token) → Peeked t i r → r.token ≡ x → tok t r.at ≡ token_of x
is_tok r x p e = sym p.is ∙ ap token_of e

pub holds_tok : {t : List ℕ} {i : ℕ} (r : Piece) (x : Token) → Peeked t i r → r.token ≡ x → Held t r.at x
holds_tok {t} r x p e = subst (λ (v : Token). Held t r.at v) e p.held

-- the fault of a token that can't follow
refuses : (P : Outcome → Type 0) {t : List ℕ} {y : ℕ} (r : Piece) (x : Fault) → Peeked t y r →
    x ≡ fault_of (cannot (token_of r.token)) r.at → P (bad (cannot (tok t r.at)) r.at) → Refuses P x
refuses P {t} r x p e h = (cannot (tok t r.at), r.at, h, e ∙ ap (λ (v : Tok). fault_of (cannot v) r.at) p.is)

pub refused : {t : List ℕ} {s : Part} {e i c y : ℕ} (r : Piece) (x : Fault) → Peeked t y r →
    x ≡ fault_of (cannot (token_of r.token)) r.at → Reads t s e i c (bad (cannot (tok t r.at)) r.at) →
    Refuses (λ o. Reads t s e i c o) x
refused {t} {s} {e} {i} {c} r x p f h = refuses (λ o. Reads t s e i c o) r x p f h

pub refused_mix : {t : List ℕ} {i y : ℕ} (r : Piece) (x : Fault) → Peeked t y r →
    x ≡ fault_of (cannot (token_of r.token)) r.at → Mixes t i (bad (cannot (tok t r.at)) r.at) →
    Refuses (λ o. Mixes t i o) x
refused_mix {t} {i} r x p f h = refuses (λ o. Mixes t i o) r x p f h

pub refused_open : {t : List ℕ} {i y : ℕ} (r : Piece) (x : Fault) → Peeked t y r →
    x ≡ fault_of (cannot (token_of r.token)) r.at → Opens t i (bad (cannot (tok t r.at)) r.at) →
    Refuses (λ o. Opens t i o) x
refused_open {t} {i} r x p f h = refuses (λ o. Opens t i o) r x p f h

pub refused_whole : {t : List ℕ} {y : ℕ} (r : Piece) (x : Fault) → Peeked t y r →
    x ≡ fault_of (cannot (token_of r.token)) r.at → Whole t (bad (cannot (tok t r.at)) r.at) →
    Refuses (λ o. Whole t o) x
refused_whole {t} r x p f h = refuses (λ o. Whole t o) r x p f h

-- names
named_reads : (t : List ℕ) (e i c : ℕ) (r : Piece) (n : Bor (List ℕ)) (k : ℕ) → Peeked t i r → r.token ≡ Name n →
    k ≡ r.at + length n.now → length n.now ≤ 32 → c < 64 → Reads t named e i c (good k (1 ∷ []) (n.now ∷ []))
named_reads t e i c r n k p s ek h z =
    let d = holds_tok r (Name n) p s in
    subst (λ (y : ℕ). Reads t named e i c (good y (1 ∷ []) (n.now ∷ []))) (sym ek)
    (subst (λ (y : List ℕ). Reads t named e i c (good (r.at + length n.now) (1 ∷ []) (y ∷ []))) (sym d.bytes)
    (n_name p.white (is_tok r (Name n) p s) d.longest (omega arith) z))

particle_reads : (t : List ℕ) (e i c j : ℕ) (r : Piece) (n : Bor (List ℕ)) (k : ℕ) (m : List ℕ) → Peeked t i r →
    r.token ≡ Name n → k ≡ r.at + length n.now → length n.now ≤ 32 → c < 64 → Mark t k j m →
    Reads t particle e i c (good j (1 ∷ m) (n.now ∷ []))
particle_reads t e i c j r n k m p s ek h z mk =
    let d = holds_tok r (Name n) p s in
    subst (λ (y : List ℕ). Reads t particle e i c (good j (1 ∷ m) (y ∷ []))) (sym d.bytes)
    (p_name p.white (is_tok r (Name n) p s) d.longest (omega arith) z (subst (λ (y : ℕ). Mark t y j m) ek mk))

pub in_named : (t : List ℕ) (i : ℕ) (r : Piece) (n : Bor (List ℕ)) (o p : Output) (x : Result ℕ Fault) → Peeked t i r →
    r.token ≡ Name n → Keeps n.now r.at o x p → Did named 15 t i o x p
in_named t i r n o p (Ok k) a s h =
    let d = holds_tok r (Name n) a s in
    (1 ∷ [], n.now ∷ [], named_reads t 15 i (names_in o) r n k a s h.0 h.1 h.2, record { on = omega (arith, h.0, a.on, d.some); inside = omega (arith, h.0, d.inside); grew = h.3 })
in_named t i r n o p (Err x) a s (inl h) =
    let d = holds_tok r (Name n) a s in
    (long_name, r.at, n_long a.white (is_tok r (Name n) a s) d.longest (omega (arith, h.0)), h.1)
in_named t i r n o p (Err x) a s (inr h) =
    let d = holds_tok r (Name n) a s in
    (too_many, r.at, n_many a.white (is_tok r (Name n) a s) d.longest (omega (arith, h.0)) h.1, h.2)

pub in_name : (t : List ℕ) (e i k j : ℕ) (r : Piece) (n : Bor (List ℕ)) (o p q : Output) → Peeked t i r →
    r.token ≡ Name n → Keeps n.now r.at o (Ok k) p → DidMark t k p j q → Did particle e t i o (Ok j) q
in_name t e i k j r n o p q a s h m =
    let d = holds_tok r (Name n) a s in
    (1 ∷ m.0, n.now ∷ [], particle_reads t e i (names_in o) j r n k m.0 a s h.0 h.1 h.2 m.1, record { on = omega (arith, h.0, a.on, d.some, m.2); inside = m.3; grew = with_codes (1 ∷ []) m.0 (n.now ∷ []) h.3 m.4 })

pub in_name_bad : (t : List ℕ) (e i : ℕ) (r : Piece) (n : Bor (List ℕ)) (o p : Output) (x : Fault) → Peeked t i r →
    r.token ≡ Name n → Keeps n.now r.at o (Err x) p → Refuses (λ z. Reads t particle e i (names_in o) z) x
in_name_bad t e i r n o p x a s (inl h) =
    let d = holds_tok r (Name n) a s in
    (long_name, r.at, p_long a.white (is_tok r (Name n) a s) d.longest (omega (arith, h.0)), h.1)
in_name_bad t e i r n o p x a s (inr h) =
    let d = holds_tok r (Name n) a s in
    (too_many, r.at, p_many a.white (is_tok r (Name n) a s) d.longest (omega (arith, h.0)) h.1, h.2)

-- groups
abbrev pub Good : List ℕ → Part → ℕ → ℕ → Output → ℕ → Output → Type 0
Good t s e i o j p = (w : List ℕ) × (ns : List (List ℕ)) × Reads t s e i (names_in o) (good j w ns) × Read t i j o p w ns

pub in_group : (t : List ℕ) (e x i k j : ℕ) (r : Piece) (o p q : Output) → Peeked t i r → r.token ≡ Open → e ≡ x + 1 →
    Good t body x (r.at + 1) o k p → DidMark t k p j q → Good t particle e i o j q
in_group t e x i k j r o p q a s ex b m = (b.0 ++ m.0, b.1, p_group a.white (is_tok r Open a s) ex b.2 m.1, record { on = omega (arith, a.on, b.3.on, m.2); inside = m.3; grew = with_codes b.0 m.0 b.1 b.3.grew m.4 })

pub in_body : (t : List ℕ) (e i k : ℕ) (r : Piece) (g : Chain) (o p q : Output) (x : Result ℕ Fault) →
    Good t particle e i o k p → Peeked t k r → g ≡ chain_of_tok (token_of r.token) → Did (onward g) e t k p x q →
    Did body e t i o x q
in_body t e i k r g o p q (Ok j) a u h m = (a.0 ++ m.0, a.1 ++ m.1, b_goes_on a.2 u.white (h ∙ ap chain_of_tok u.is) a.3.grew.found m.2, record { on = omega (arith, a.3.on, m.3.on); inside = m.3.inside; grew = both a.0 m.0 a.1 m.1 a.3.grew m.3.grew })
in_body t e i k r g o p q (Err x) a u h m = (m.0, m.1, b_goes_on a.2 u.white (h ∙ ap chain_of_tok u.is) a.3.grew.found m.2, m.3)

pub in_close : (t : List ℕ) (g : Chain) (e i : ℕ) (r : Piece) (o : Output) → Peeked t i r → r.token ≡ Close →
    Good t (onward g) e i o (r.at + 1) o
in_close t g e i r o a s = ([], [], o_done a.white (is_tok r Close a s), record { on = omega (arith, a.on); inside = omega (arith, holds_tok r Close a s); grew = still o })

pub in_none : (t : List ℕ) (g : Chain) (e i c : ℕ) (r : Piece) → Peeked t i r → (r.token ≡ Close → ⊥) →
    false ≡ joins g (token_of r.token) → Reads t (onward g) e i c (bad (cannot (tok t r.at)) r.at)
in_none t g e i c r a f s = o_none a.white (λ h. f (seen r closes a h)) (ap (joins g) (sym a.is) ∙ sym s)

pub in_next_bad : (t : List ℕ) (g : Chain) (e i : ℕ) (r : Piece) (o : Output) (x : Fault) → Peeked t i r →
    true ≡ joins g (token_of r.token) → Refuses (λ z. Reads t particle e (r.at + 1) (names_in o) z) x →
    Refuses (λ z. Reads t (onward g) e i (names_in o) z) x
in_next_bad t g e i r o x a s h = (h.0, h.1, o_bad a.white (ap (joins g) (sym a.is) ∙ sym s) h.2, h.3)

pub in_next : (t : List ℕ) (g : Chain) (e i k : ℕ) (r : Piece) (b : ℕ) (o p p' q : Output) (x : Result ℕ Fault) →
    Peeked t i r → true ≡ joins g (token_of r.token) → Good t particle e (r.at + 1) o k p → b ≡ code g →
    Grew p p' (b ∷ []) [] → Did (onward g) e t k p' x q → Did (onward g) e t i o x q
in_next t g e i k r b o p p' q (Ok j) a s c f h m =
    let h' : Grew p p' (code g ∷ []) [] = subst (λ (z : ℕ). Grew p p' (z ∷ []) []) f h in
    let joint : joins g (tok t r.at) ≡ true = ap (joins g) (sym a.is) ∙ sym s in
    ((c.0 ++ (code g ∷ [])) ++ m.0, c.1 ++ m.1, o_next a.white joint c.2 (omega (arith, h.found, c.3.grew.found)) m.2, record { on = omega (arith, a.on, c.3.on, m.3.on); inside = m.3.inside; grew = both (c.0 ++ (code g ∷ [])) m.0 c.1 m.1 (with_codes c.0 (code g ∷ []) c.1 c.3.grew h') m.3.grew })
in_next t g e i k r b o p p' q (Err x) a s c f h m =
    let joint : joins g (tok t r.at) ≡ true = ap (joins g) (sym a.is) ∙ sym s in
    (m.0, m.1, o_next a.white joint c.2 (omega (arith, h.found, c.3.grew.found)) m.2, m.3)

-- mixed models
pub in_listed_close : (t : List ℕ) (i : ℕ) (r : Piece) (o : Output) → Peeked t i r → r.token ≡ Close →
    Good t listed 15 i o (r.at + 1) o
in_listed_close t i r o a s = ([], [], l_done a.white (is_tok r Close a s), record { on = omega (arith, a.on); inside = omega (arith, holds_tok r Close a s); grew = still o })

pub in_listed_bad : (t : List ℕ) (i : ℕ) (r : Piece) (o : Output) (x : Fault) → Peeked t i r → r.token ≡ Bar →
    Refuses (λ z. Reads t named 15 (r.at + 1) (names_in o) z) x → Refuses (λ z. Reads t listed 15 i (names_in o) z) x
in_listed_bad t i r o x a s h = (h.0, h.1, l_bad a.white (is_tok r Bar a s) h.2, h.3)

pub in_listed : (t : List ℕ) (i k : ℕ) (r : Piece) (o p p' q : Output) (x : Result ℕ Fault) → Peeked t i r →
    r.token ≡ Bar → Good t named 15 (r.at + 1) o k p → Grew p p' (3 ∷ []) [] → Did listed 15 t k p' x q →
    Did listed 15 t i o x q
in_listed t i k r o p p' q (Ok j) a s c h m = ((c.0 ++ (3 ∷ [])) ++ m.0, c.1 ++ m.1, l_next a.white (is_tok r Bar a s) c.2 (omega (arith, h.found, c.3.grew.found)) m.2, record { on = omega (arith, a.on, c.3.on, m.3.on); inside = m.3.inside; grew = both (c.0 ++ (3 ∷ [])) m.0 c.1 m.1 (with_codes c.0 (3 ∷ []) c.1 c.3.grew h) m.3.grew })
in_listed t i k r o p p' q (Err x) a s c h m = (m.0, m.1, l_next a.white (is_tok r Bar a s) c.2 (omega (arith, h.found, c.3.grew.found)) m.2, m.3)

from_none : {t : List ℕ} {s : Part} {e i c : ℕ} {o : Outcome} → c ≡ 0 → Reads t s e i c o → Reads t s e i 0 o
from_none {t} {s} {e} {i} {c} {o} z r = subst (λ (y : ℕ). Reads t s e i y o) z r

-- mixed models, whole
pub mix_text : (t : List ℕ) (i : ℕ) (r : Piece) (x : Token) (o p : Output) → Peeked t i r → r.token ≡ Close →
    token_of x ≡ tok t (r.at + 1) → (x ≡ Star → ⊥) → Grew o p (0 ∷ []) [] → DidMix t i o (Ok (r.at + 1)) p
mix_text t i r x o p a s e f g = (0 ∷ [], [], x_text a.white (is_tok r Close a s) (λ h. f (again x star (e ∙ h))), omega (arith, holds_tok r Close a s), g)

pub mix_star : (t : List ℕ) (i : ℕ) (r : Piece) (o p : Output) → Peeked t i r → r.token ≡ Close →
    star ≡ tok t (r.at + 1) → r.at + 1 < length t → Grew o p (0 ∷ []) [] → DidMix t i o (Ok (r.at + 1 + 1)) p
mix_star t i r o p a s e h g = (0 ∷ [], [], x_star a.white (is_tok r Close a s) (sym e), omega arith, g)

pub mix_name_bad : (t : List ℕ) (i : ℕ) (r : Piece) (x : Fault) (o : Output) → Peeked t i r → r.token ≡ Bar →
    names_in o ≡ 0 → Refuses (λ y. Reads t named 15 (r.at + 1) (names_in o) y) x → Refuses (λ y. Mixes t i y) x
mix_name_bad t i r x o a s z h = (h.0, h.1, x_name_bad a.white (is_tok r Bar a s) (from_none z h.2), h.3)

pub mix_list_bad : (t : List ℕ) (i k : ℕ) (r : Piece) (x : Fault) (o p : Output) → Peeked t i r → r.token ≡ Bar →
    names_in o ≡ 0 → Good t named 15 (r.at + 1) o k p → Refuses (λ y. Reads t listed 15 k (names_in p) y) x →
    Refuses (λ y. Mixes t i y) x
mix_list_bad t i k r x o p a s z h q = (q.0, q.1, x_list_bad a.white (is_tok r Bar a s) (from_none z h.2) (omega (arith, h.3.grew.found)) q.2, q.3)

pub mix_names : (t : List ℕ) (i k j : ℕ) (r : Piece) (o p q q' : Output) → Peeked t i r → r.token ≡ Bar → names_in o ≡ 0 →
    Good t named 15 (r.at + 1) o k p → Good t listed 15 k p j q → star ≡ tok t j → j < length t → Grew q q' (5 ∷ []) [] →
    DidMix t i o (Ok (j + 1)) q'
mix_names t i k j r o p q q' a s z h l e f g = ((h.0 ++ l.0) ++ (5 ∷ []), h.1 ++ l.1, x_names a.white (is_tok r Bar a s) (from_none z h.2) (omega (arith, h.3.grew.found)) l.2 (sym e), omega arith, with_codes (h.0 ++ l.0) (5 ∷ []) (h.1 ++ l.1) (both h.0 l.0 h.1 l.1 h.3.grew l.3.grew) g)

pub mix_no_star : (t : List ℕ) (i k j : ℕ) (r y : Piece) (u : Token) (o p q : Output) → Peeked t i r → r.token ≡ Bar →
    names_in o ≡ 0 → Good t named 15 (r.at + 1) o k p → Good t listed 15 k p j q → token_of u ≡ tok t j → (u ≡ Star → ⊥) →
    Peeked t j y → Mixes t i (bad (cannot (tok t y.at)) y.at)
mix_no_star t i k j r y u o p q a s z h l e f b = x_no_star a.white (is_tok r Bar a s) (from_none z h.2) (omega (arith, h.3.grew.found)) l.2 (λ v. f (again u star (e ∙ v))) b.white

-- content specifications
pub open_empty : (t : List ℕ) (i : ℕ) (r : Piece) (n : Bor (List ℕ)) (o p : Output) → Peeked t i r → r.token ≡ Name n →
    n.now ≡ codes "EMPTY" → Grew o p (0 ∷ []) [] → DidOpen t i o (Ok (r.at + length n.now)) p
open_empty t i r n o p a s e g =
    let d = holds_tok r (Name n) a s in
    (0 ∷ [], [], c_empty a.white (is_tok r (Name n) a s) d.longest (sym d.bytes ∙ e), d.inside, g)

pub open_word : (t : List ℕ) (i : ℕ) (r : Piece) (n : Bor (List ℕ)) → Peeked t i r → r.token ≡ Name n →
    (n.now ≡ codes "EMPTY" → ⊥) → Opens t i (bad (cannot (tok t r.at)) r.at)
open_word t i r n a s e =
    let d = holds_tok r (Name n) a s in
    subst (λ (f : Cause). Opens t i (bad f r.at)) (ap cannot (sym (is_tok r (Name n) a s))) (c_word a.white (is_tok r (Name n) a s) d.longest (λ h. e (d.bytes ∙ h)))

pub open_mixed : (t : List ℕ) (i : ℕ) (r y : Piece) (o p : Output) (x : Result ℕ Fault) → Peeked t i r → r.token ≡ Open →
    Peeked t (r.at + 1) y → y.token ≡ Pcdata → DidMix t (y.at + 7) o x p → DidOpen t i o x p
open_mixed t i r y o p (Ok j) a s b u m = (m.0, m.1, c_mixed a.white (is_tok r Open a s) b.white (is_tok y Pcdata b u) m.2, m.3, m.4)
open_mixed t i r y o p (Err x) a s b u m = (m.0, m.1, c_mixed a.white (is_tok r Open a s) b.white (is_tok y Pcdata b u) m.2, m.3)

pub open_children : (t : List ℕ) (i k j : ℕ) (r y : Piece) (o p q : Output) → names_in o ≡ 0 → Peeked t i r →
    r.token ≡ Open → Peeked t (r.at + 1) y → (y.token ≡ Pcdata → ⊥) → Good t body 15 (r.at + 1) o k p →
    DidMark t k p j q → DidOpen t i o (Ok j) q
open_children t i k j r y o p q z a s b u h m = (h.0 ++ m.0, h.1, c_children a.white (is_tok r Open a s) b.white (λ e. u (seen y pcdata b e)) (from_none z h.2) m.1, m.3, with_codes h.0 m.0 h.1 h.3.grew m.4)

pub open_children_bad : (t : List ℕ) (i : ℕ) (r y : Piece) (x : Fault) (o : Output) → names_in o ≡ 0 → Peeked t i r →
    r.token ≡ Open → Peeked t (r.at + 1) y → (y.token ≡ Pcdata → ⊥) →
    Refuses (λ v. Reads t body 15 (r.at + 1) (names_in o) v) x → Refuses (λ v. Opens t i v) x
open_children_bad t i r y x o z a s b u h = (h.0, h.1, c_bad a.white (is_tok r Open a s) b.white (λ e. u (seen y pcdata b e)) (from_none z h.2), h.3)

pub whole_good : (t : List ℕ) (j : ℕ) (r : Piece) (o p : Output) → Holds o [] [] → DidOpen t 0 o (Ok j) p → Peeked t j r →
    r.token ≡ End → DidWhole t (Ok j) p
whole_good t j r o p h d a s = (d.0, d.1, w_good d.2 a.white (is_tok r End a s), d.3, d.4.holds [] [] h)

pub whole_left : (t : List ℕ) (j : ℕ) (r : Piece) (o p : Output) → DidOpen t 0 o (Ok j) p → Peeked t j r →
    (r.token ≡ End → ⊥) → Whole t (bad (cannot (tok t r.at)) r.at)
whole_left t j r o p d a f = w_left d.2 a.white (λ e. f (seen r end a e))
