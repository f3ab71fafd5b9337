-- The first token from an offset on is one. Assumes nothing.
use Rattle.std.proofs.Common.{◌≡◌, ℕ, ◌+◌, List, [], length, sym, refl, ap, ◌∙◌, subst}
use Rattle.tokens.specs.Tokens.{Tok, word, pcdata, opens, closes, bar, comma, query, star, plus, stray, strange, end, token_of, bytes_of, tok, Named, Held, slice, OnePiece}
use Rattle.tokens.specs.declared.types.Token.{Token}
use Rattle.tokens.specs.declared.types.Token.TheVariants.{Name, Pcdata, Open, Close, Bar, Comma, Query, Star, Plus, Stray, Other, End}
use Rattle.tokens.proofs.Runs.{one_end}

-- the bytes of a token of the kind at i
abbrev Bytes : List ℕ → ℕ → Tok → List ℕ → Type 0
Bytes t i word n = Named t i n
Bytes t i pcdata n = n ≡ []
Bytes t i opens n = n ≡ []
Bytes t i closes n = n ≡ []
Bytes t i bar n = n ≡ []
Bytes t i comma n = n ≡ []
Bytes t i query n = n ≡ []
Bytes t i star n = n ≡ []
Bytes t i plus n = n ≡ []
Bytes t i stray n = n ≡ []
Bytes t i strange n = n ≡ []
Bytes t i end n = n ≡ []

bytes_are : (t : List ℕ) (i : ℕ) (x : Token) → Held t i x → Bytes t i (token_of x) (bytes_of x)
bytes_are t i (Name n) h = h
bytes_are t i Pcdata h = refl
bytes_are t i Open h = refl
bytes_are t i Close h = refl
bytes_are t i Bar h = refl
bytes_are t i Comma h = refl
bytes_are t i Query h = refl
bytes_are t i Star h = refl
bytes_are t i Plus h = refl
bytes_are t i Stray h = refl
bytes_are t i Other h = refl
bytes_are t i End h = refl

-- a name at i is one name
one_name : (t : List ℕ) (i : ℕ) (n n' : List ℕ) → Named t i n → Named t i n' → n' ≡ n
one_name t i n n' a b =
    let e : i + length n' ≡ i + length n = one_end a.longest b.longest in
    b.bytes ∙ ap (λ (k : ℕ). slice t i k) e ∙ sym a.bytes

one_bytes : (t : List ℕ) (i : ℕ) (k : Tok) (n n' : List ℕ) → Bytes t i k n → Bytes t i k n' → n' ≡ n
one_bytes t i word n n' a b = one_name t i n n' a b
one_bytes t i pcdata n n' a b = b ∙ sym a
one_bytes t i opens n n' a b = b ∙ sym a
one_bytes t i closes n n' a b = b ∙ sym a
one_bytes t i bar n n' a b = b ∙ sym a
one_bytes t i comma n n' a b = b ∙ sym a
one_bytes t i query n n' a b = b ∙ sym a
one_bytes t i star n n' a b = b ∙ sym a
one_bytes t i plus n n' a b = b ∙ sym a
one_bytes t i stray n n' a b = b ∙ sym a
one_bytes t i strange n n' a b = b ∙ sym a
one_bytes t i end n n' a b = b ∙ sym a

pub one_piece : OnePiece
one_piece t i r r' p p' =
    let e : r'.at ≡ r.at = one_end p.white p'.white in
    let k : token_of r'.token ≡ token_of r.token = p'.is ∙ ap (tok t) e ∙ sym p.is in
    let h = bytes_are t r.at r.token p.held in
    let h' = bytes_are t r.at r'.token (subst (λ (j : ℕ). Held t j r'.token) e p'.held) in
    (e, k, one_bytes t r.at (token_of r.token) (bytes_of r.token) (bytes_of r'.token) h (subst (λ (v : Tok). Bytes t r.at v (bytes_of r'.token)) k h'))
