-- The tokens of a content model. Assumes nothing.
use Rattle.std.specs.Prelude.{◌≡◌, ℕ, ◌+◌, ◌<◌, ◌≤◌, Bool, true, false, cond, List, [], ◌∷◌, length, drop, codes, ◌==◌, nat_lt, slice_index, slice_range}
use Rattle.std.specs.Fn.{Shared}
use Rattle.symbols.specs.Rule.{inner}
use Rattle.tokens.specs.Bytes.{class_of, white}
use Rattle.tokens.specs.declared.types.Class.{Class}
use Rattle.tokens.specs.declared.types.Class.TheVariants.{NameStart, NameOnly, White, Open, Close, Bar, Comma, Query, Star, Plus, Hash, Other}
use Rattle.tokens.specs.declared.types.Token.{Token}
use Rattle.tokens.specs.declared.types.Token.TheVariants.{Name, Pcdata, Open as Open', Close as Close', Bar as Bar', Comma as Comma', Query as Query', Star as Star', Plus as Plus', Stray, Other as Other', End}
use Rattle.tokens.specs.declared.types.Piece.{Piece}

-- what kind a token is: a name (word), #PCDATA, a sign, a byte of a class that begins no token there (stray), a byte of no
-- class but "other" (strange), the end of the text
pub data Tok : Type 0 where
  word : Tok
  pcdata : Tok
  opens : Tok
  closes : Tok
  bar : Tok
  comma : Tok
  query : Tok
  star : Tok
  plus : Tok
  stray : Tok
  strange : Tok
  end : Tok

-- the kind of a token
abbrev pub token_of : Token → Tok
token_of (Name n) = word
token_of Pcdata = pcdata
token_of Open' = opens
token_of Close' = closes
token_of Bar' = bar
token_of Comma' = comma
token_of Query' = query
token_of Star' = star
token_of Plus' = plus
token_of Stray = stray
token_of Other' = strange
token_of End = end

-- whether s begins with the bytes w
abbrev pub begins : List ℕ → List ℕ → Bool
begins [] s = true
begins (x ∷ w) [] = false
begins (x ∷ w) (b ∷ s) = cond (b == x) (begins w s) false

-- whether #PCDATA stands at i
abbrev pub pcdata_at : List ℕ → ℕ → Bool
pcdata_at t i = begins (codes "#PCDATA") (drop i t)

-- what kind of token a byte of the class begins, where p says whether #PCDATA stands there
abbrev pub by_class : Class → Bool → Tok
by_class NameStart p = word
by_class NameOnly p = stray
by_class White p = stray
by_class Open p = opens
by_class Close p = closes
by_class Bar p = bar
by_class Comma p = comma
by_class Query p = query
by_class Star p = star
by_class Plus p = plus
by_class Hash p = cond p pcdata stray
by_class Other p = strange

-- what kind of token begins at i; at the text's length and past it stands the end
unfoldable pub tok : List ℕ → ℕ → Tok
tok t i = cond (nat_lt i (length t)) (by_class (class_of (slice_index t i)) (pcdata_at t i)) end

-- each byte from i up to j, without j, passes the test p; past the end of the text a byte counts as 0
pub data While (p : ℕ → Bool) (t : List ℕ) : ℕ → ℕ → Type 0 where
  stop : {i : ℕ} → While p t i i
  on : {i j : ℕ} → p (slice_index t i) ≡ true → While p t (i + 1) j → While p t i j

-- and the byte at j does not: j is where the run from i ends
pub record Longest (p : ℕ → Bool) (t : List ℕ) (i j : ℕ) : Type 0 where
  pub run : While p t i j
  pub ends : p (slice_index t j) ≡ false

-- a call of f at a byte answers the test p of that byte
abbrev pub Tells : {F : Type 0} → Shared F (ℕ × Unit {0}) Bool → (ℕ → Bool) → F → Type 0
Tells g p f = (b : ℕ) (r : Bool) → g.post f (b, tt) r → r ≡ p b

-- the bytes from i up to j, without j
abbrev pub slice : List ℕ → ℕ → ℕ → List ℕ
slice t i j = slice_range t i j

-- the name at i has the bytes n, and is the longest that there is
pub record Named (t : List ℕ) (i : ℕ) (n : List ℕ) : Type 0 where
  pub longest : Longest inner t (i + 1) (i + length n)
  pub bytes : n ≡ slice t i (i + length n)
  pub some : 0 < length n
  pub inside : i + length n ≤ length t

-- the token at i stands inside the text, a name with its bytes; only the end stands at the text's length or past it
abbrev pub Held : List ℕ → ℕ → Token → Type 0
Held t i (Name n) = Named t i n.now
Held t i Pcdata = i + 7 ≤ length t
Held t i Open' = i < length t
Held t i Close' = i < length t
Held t i Bar' = i < length t
Held t i Comma' = i < length t
Held t i Query' = i < length t
Held t i Star' = i < length t
Held t i Plus' = i < length t
Held t i Stray = i < length t
Held t i Other' = i < length t
Held t i End = length t ≤ i

-- the first token from i on: white space is skipped as far as it goes, and the token stands right behind it
pub record Peeked (t : List ℕ) (i : ℕ) (r : Piece) : Type 0 where
  pub white : Longest white t i r.at
  pub on : i ≤ r.at
  pub inside : i ≤ length t → r.at ≤ length t
  pub is : token_of r.token ≡ tok t r.at
  pub held : Held t r.at r.token

-- the bytes of a name, and none where the token is no name
abbrev pub bytes_of : Token → List ℕ
bytes_of (Name n) = n.now
bytes_of Pcdata = []
bytes_of Open' = []
bytes_of Close' = []
bytes_of Bar' = []
bytes_of Comma' = []
bytes_of Query' = []
bytes_of Star' = []
bytes_of Plus' = []
bytes_of Stray = []
bytes_of Other' = []
bytes_of End = []

-- the first token from i on has one offset, one kind and one list of bytes
abbrev pub OnePiece : Type 0
OnePiece = (t : List ℕ) (i : ℕ) (r r' : Piece) → Peeked t i r → Peeked t i r' →
    (r'.at ≡ r.at) × (token_of r'.token ≡ token_of r.token) × (bytes_of r'.token ≡ bytes_of r.token)
