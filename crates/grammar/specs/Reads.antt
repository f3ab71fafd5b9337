-- How a reader goes over a text, token by token: what it reads, or the first token that it refuses and why. A name may have
-- 32 bytes, a text 64 names, and the first bracket 15 more levels inside it. Assumes nothing.
use Rattle.std.specs.Prelude.{◌≡◌, ℕ, ◌+◌, ◌<◌, ◌≤◌, Bool, true, false, List, [], ◌∷◌, ◌++◌, length, codes, ◌≢◌}
use Rattle.symbols.specs.Rule.{inner}
use Rattle.tokens.specs.Bytes.{white}
use Rattle.tokens.specs.Tokens.{Tok, word, pcdata, opens, closes, bar, comma, query, star, plus, stray, strange, end, tok, Longest, slice}
use Rattle.grammar.specs.Grammar.{code}
use Rattle.grammar.specs.declared.Chain.{Chain}
use Rattle.grammar.specs.declared.Chain.TheVariants.{Choice, Seq}

-- why a token is refused: its byte is of no class but "other", it can't follow, it is a name of over 32 bytes, it is a
-- bracket that opens a seventeenth level, or it is a 65th name
pub data Cause : Type 0 where
  strange_byte : Cause
  unexpected : Cause
  long_name : Cause
  too_deep : Cause
  too_many : Cause

-- why a token that can't follow is refused
abbrev pub cannot : Tok → Cause
cannot word = unexpected
cannot pcdata = unexpected
cannot opens = unexpected
cannot closes = unexpected
cannot bar = unexpected
cannot comma = unexpected
cannot query = unexpected
cannot star = unexpected
cannot plus = unexpected
cannot stray = unexpected
cannot strange = strange_byte
cannot end = unexpected

-- whether a token is the sign of a chain
abbrev pub joins : Chain → Tok → Bool
joins Choice word = false
joins Choice pcdata = false
joins Choice opens = false
joins Choice closes = false
joins Choice bar = true
joins Choice comma = false
joins Choice query = false
joins Choice star = false
joins Choice plus = false
joins Choice stray = false
joins Choice strange = false
joins Choice end = false
joins Seq word = false
joins Seq pcdata = false
joins Seq opens = false
joins Seq closes = false
joins Seq bar = false
joins Seq comma = true
joins Seq query = false
joins Seq star = false
joins Seq plus = false
joins Seq stray = false
joins Seq strange = false
joins Seq end = false

-- which chain goes on with this token behind its first particle: a choice has a bar there
abbrev pub chain_of_tok : Tok → Chain
chain_of_tok word = Seq
chain_of_tok pcdata = Seq
chain_of_tok opens = Seq
chain_of_tok closes = Seq
chain_of_tok bar = Choice
chain_of_tok comma = Seq
chain_of_tok query = Seq
chain_of_tok star = Seq
chain_of_tok plus = Seq
chain_of_tok stray = Seq
chain_of_tok strange = Seq
chain_of_tok end = Seq

-- a token that is a mark, and its code
pub data MarkTok (k : Tok) (m : ℕ) : Type 0 where
  query_4 : k ≡ query → m ≡ 4 → MarkTok k m
  star_5 : k ≡ star → m ≡ 5 → MarkTok k m
  plus_6 : k ≡ plus → m ≡ 6 → MarkTok k m

-- the mark at i, if one stands right there
pub data Mark (t : List ℕ) : ℕ → ℕ → List ℕ → Type 0 where
  none : {i : ℕ} → ((m : ℕ) → MarkTok (tok t i) m → ⊥) → Mark t i i []
  one : {i m : ℕ} → MarkTok (tok t i) m → Mark t i (i + 1) (m ∷ [])

-- what was read: where it ends, its codes and its names; or why a token is refused and its offset
pub data Outcome : Type 0 where
  good : (j : ℕ) (w : List ℕ) (ns : List (List ℕ)) → Outcome
  bad : (c : Cause) (k : ℕ) → Outcome

-- the outcome of what follows codes and names that were read before
abbrev pub after : List ℕ → List (List ℕ) → Outcome → Outcome
after w ns (good j v ms) = good j (w ++ v) (ns ++ ms)
after w ns (bad f k) = bad f k

-- what is read: a particle, the inside of a group with its closing bracket, the rest of such an inside behind a particle, a
-- name of a mixed model, the rest of a mixed model behind one of its names
pub data Part : Type 0 where
  particle : Part
  body : Part
  onward : Chain → Part
  named : Part
  listed : Part

-- reading from i on, where e more levels may be opened and c names were read before
pub data Reads (t : List ℕ) : Part → ℕ → ℕ → ℕ → Outcome → Type 0 where
  -- a particle: a name, one that is too long, one too many, a bracket too deep, a group, or a token that is neither
  p_name : {e i b k j c : ℕ} {m : List ℕ} → Longest white t i b → tok t b ≡ word → Longest inner t (b + 1) k →
      k ≤ b + 32 → c < 64 → Mark t k j m → Reads t particle e i c (good j (1 ∷ m) (slice t b k ∷ []))
  p_long : {e i b k c : ℕ} → Longest white t i b → tok t b ≡ word → Longest inner t (b + 1) k → b + 32 < k →
      Reads t particle e i c (bad long_name b)
  p_many : {e i b k c : ℕ} → Longest white t i b → tok t b ≡ word → Longest inner t (b + 1) k → k ≤ b + 32 → 64 ≤ c →
      Reads t particle e i c (bad too_many b)
  p_deep : {e i b c : ℕ} → Longest white t i b → tok t b ≡ opens → e ≡ 0 → Reads t particle e i c (bad too_deep b)
  p_group : {e x i b k j c : ℕ} {w m : List ℕ} {ns : List (List ℕ)} → Longest white t i b → tok t b ≡ opens → e ≡ x + 1 →
      Reads t body x (b + 1) c (good k w ns) → Mark t k j m → Reads t particle e i c (good j (w ++ m) ns)
  p_group_bad : {e x i b k c : ℕ} {f : Cause} → Longest white t i b → tok t b ≡ opens → e ≡ x + 1 →
      Reads t body x (b + 1) c (bad f k) → Reads t particle e i c (bad f k)
  p_none : {e i b c : ℕ} → Longest white t i b → (tok t b ≢ word) → (tok t b ≢ opens) →
      Reads t particle e i c (bad (cannot (tok t b)) b)
  -- the inside of a group: a particle, and what goes on behind it
  b_bad : {e i k c : ℕ} {f : Cause} → Reads t particle e i c (bad f k) → Reads t body e i c (bad f k)
  b_goes_on : {e i k l c x : ℕ} {w : List ℕ} {ns : List (List ℕ)} {g : Chain} {o : Outcome} →
      Reads t particle e i c (good k w ns) → Longest white t k l → g ≡ chain_of_tok (tok t l) → x ≡ c + length ns →
      Reads t (onward g) e k x o → Reads t body e i c (after w ns o)
  -- the rest of the inside: the closing bracket, or the sign of the chain, a particle and what goes on behind it
  o_done : {g : Chain} {e i l c : ℕ} → Longest white t i l → tok t l ≡ closes →
      Reads t (onward g) e i c (good (l + 1) [] [])
  o_bad : {g : Chain} {e i l k c : ℕ} {f : Cause} → Longest white t i l → joins g (tok t l) ≡ true →
      Reads t particle e (l + 1) c (bad f k) → Reads t (onward g) e i c (bad f k)
  o_next : {g : Chain} {e i l k c x : ℕ} {w : List ℕ} {ns : List (List ℕ)} {o : Outcome} → Longest white t i l →
      joins g (tok t l) ≡ true → Reads t particle e (l + 1) c (good k w ns) → x ≡ c + length ns →
      Reads t (onward g) e k x o → Reads t (onward g) e i c (after (w ++ (code g ∷ [])) ns o)
  o_none : {g : Chain} {e i l c : ℕ} → Longest white t i l → (tok t l ≢ closes) → joins g (tok t l) ≡ false →
      Reads t (onward g) e i c (bad (cannot (tok t l)) l)
  -- a name of a mixed model
  n_name : {e i b k c : ℕ} → Longest white t i b → tok t b ≡ word → Longest inner t (b + 1) k → k ≤ b + 32 → c < 64 →
      Reads t named e i c (good k (1 ∷ []) (slice t b k ∷ []))
  n_long : {e i b k c : ℕ} → Longest white t i b → tok t b ≡ word → Longest inner t (b + 1) k → b + 32 < k →
      Reads t named e i c (bad long_name b)
  n_many : {e i b k c : ℕ} → Longest white t i b → tok t b ≡ word → Longest inner t (b + 1) k → k ≤ b + 32 → 64 ≤ c →
      Reads t named e i c (bad too_many b)
  n_none : {e i b c : ℕ} → Longest white t i b → (tok t b ≢ word) → Reads t named e i c (bad (cannot (tok t b)) b)
  -- the rest of a mixed model: the closing bracket, or a bar, a name and what goes on behind it
  l_done : {e i l c : ℕ} → Longest white t i l → tok t l ≡ closes → Reads t listed e i c (good (l + 1) [] [])
  l_bad : {e i l k c : ℕ} {f : Cause} → Longest white t i l → tok t l ≡ bar → Reads t named e (l + 1) c (bad f k) →
      Reads t listed e i c (bad f k)
  l_next : {e i l k c x : ℕ} {w : List ℕ} {ns : List (List ℕ)} {o : Outcome} → Longest white t i l → tok t l ≡ bar →
      Reads t named e (l + 1) c (good k w ns) → x ≡ c + length ns → Reads t listed e k x o →
      Reads t listed e i c (after (w ++ (3 ∷ [])) ns o)
  l_none : {e i l c : ℕ} → Longest white t i l → (tok t l ≢ closes) → (tok t l ≢ bar) →
      Reads t listed e i c (bad (cannot (tok t l)) l)

-- reading a mixed model behind its #PCDATA, from i on: its names open no level, so that the 15 left levels are of no matter
pub data Mixes (t : List ℕ) : ℕ → Outcome → Type 0 where
  x_text : {i l : ℕ} → Longest white t i l → tok t l ≡ closes → (tok t (l + 1) ≢ star) →
      Mixes t i (good (l + 1) (0 ∷ []) [])
  x_star : {i l : ℕ} → Longest white t i l → tok t l ≡ closes → tok t (l + 1) ≡ star →
      Mixes t i (good (l + 1 + 1) (0 ∷ []) [])
  x_none : {i l : ℕ} → Longest white t i l → (tok t l ≢ closes) → (tok t l ≢ bar) →
      Mixes t i (bad (cannot (tok t l)) l)
  x_name_bad : {i l k : ℕ} {f : Cause} → Longest white t i l → tok t l ≡ bar → Reads t named 15 (l + 1) 0 (bad f k) →
      Mixes t i (bad f k)
  x_list_bad : {i l k y c : ℕ} {w : List ℕ} {ns : List (List ℕ)} {f : Cause} → Longest white t i l → tok t l ≡ bar →
      Reads t named 15 (l + 1) 0 (good k w ns) → c ≡ length ns → Reads t listed 15 k c (bad f y) → Mixes t i (bad f y)
  x_names : {i l k j c : ℕ} {w v : List ℕ} {ns ms : List (List ℕ)} → Longest white t i l → tok t l ≡ bar →
      Reads t named 15 (l + 1) 0 (good k w ns) → c ≡ length ns → Reads t listed 15 k c (good j v ms) → tok t j ≡ star →
      Mixes t i (good (j + 1) ((w ++ v) ++ (5 ∷ [])) (ns ++ ms))
  x_no_star : {i l k j y c : ℕ} {w v : List ℕ} {ns ms : List (List ℕ)} → Longest white t i l → tok t l ≡ bar →
      Reads t named 15 (l + 1) 0 (good k w ns) → c ≡ length ns → Reads t listed 15 k c (good j v ms) →
      (tok t j ≢ star) → Longest white t j y → Mixes t i (bad (cannot (tok t y)) y)

-- reading a content specification, from i on
pub data Opens (t : List ℕ) : ℕ → Outcome → Type 0 where
  c_empty : {i b k : ℕ} → Longest white t i b → tok t b ≡ word → Longest inner t (b + 1) k → slice t b k ≡ codes "EMPTY" →
      Opens t i (good k (0 ∷ []) [])
  c_word : {i b k : ℕ} → Longest white t i b → tok t b ≡ word → Longest inner t (b + 1) k →
      (slice t b k ≢ codes "EMPTY") → Opens t i (bad unexpected b)
  c_none : {i b : ℕ} → Longest white t i b → (tok t b ≢ word) → (tok t b ≢ opens) →
      Opens t i (bad (cannot (tok t b)) b)
  c_mixed : {i b l : ℕ} {o : Outcome} → Longest white t i b → tok t b ≡ opens → Longest white t (b + 1) l →
      tok t l ≡ pcdata → Mixes t (l + 7) o → Opens t i o
  c_children : {i b l k j : ℕ} {w m : List ℕ} {ns : List (List ℕ)} → Longest white t i b → tok t b ≡ opens →
      Longest white t (b + 1) l → (tok t l ≢ pcdata) → Reads t body 15 (b + 1) 0 (good k w ns) → Mark t k j m →
      Opens t i (good j (w ++ m) ns)
  c_bad : {i b l k : ℕ} {f : Cause} → Longest white t i b → tok t b ≡ opens → Longest white t (b + 1) l →
      (tok t l ≢ pcdata) → Reads t body 15 (b + 1) 0 (bad f k) → Opens t i (bad f k)

-- reading the whole text: a content specification, and nothing behind it but white space
pub data Whole (t : List ℕ) : Outcome → Type 0 where
  w_good : {j l : ℕ} {w : List ℕ} {ns : List (List ℕ)} → Opens t 0 (good j w ns) → Longest white t j l → tok t l ≡ end →
      Whole t (good j w ns)
  w_bad : {k : ℕ} {f : Cause} → Opens t 0 (bad f k) → Whole t (bad f k)
  w_left : {j l : ℕ} {w : List ℕ} {ns : List (List ℕ)} → Opens t 0 (good j w ns) → Longest white t j l →
      (tok t l ≢ end) → Whole t (bad (cannot (tok t l)) l)
