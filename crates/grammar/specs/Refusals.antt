-- What the refusal of a token says of the productions. Assumes nothing.
use Rattle.std.specs.Prelude.{◌≡◌, ℕ, ◌+◌, ◌<◌, ◌≤◌, List, ◌++◌, length, take, slice_index}
use Rattle.symbols.specs.Rule.{inner}
use Rattle.tokens.specs.Bytes.{white}
use Rattle.tokens.specs.Tokens.{While, Longest, tok, slice}
use Rattle.grammar.specs.Grammar.{Model}
use Rattle.grammar.specs.Reads.{Cause, strange_byte, unexpected, long_name, too_deep, too_many, bad, Whole}

-- the text is no model, whatever the limits; or it is one only past the limit that the cause names
abbrev pub Refutes : List ℕ → Cause → Type 0
Refutes t strange_byte = (n d : ℕ) (w : List ℕ) (ns : List (List ℕ)) → Model t n d w ns → ⊥
Refutes t unexpected = (n d : ℕ) (w : List ℕ) (ns : List (List ℕ)) → Model t n d w ns → ⊥
Refutes t long_name = (n d : ℕ) (w : List ℕ) (ns : List (List ℕ)) → Model t n d w ns → 32 < n
Refutes t too_deep = (n d : ℕ) (w : List ℕ) (ns : List (List ℕ)) → Model t n d w ns → 16 < d
Refutes t too_many = (n d : ℕ) (w : List ℕ) (ns : List (List ℕ)) → Model t n d w ns → 64 < length ns

-- what stands before k, but for white space right before k, begins a model
abbrev pub Begun : List ℕ → ℕ → Type 0
Begun t k = (j : ℕ) × (s : List ℕ) × (w : List ℕ) × (ns : List (List ℕ)) × While white t j k ×
    Model (take j t ++ s) 32 16 w ns

-- the texts have the same bytes up to k and the same token at k
pub record Alike (t t' : List ℕ) (k : ℕ) : Type 0 where
  pub same : (m : ℕ) → m ≤ k → slice_index t' m ≡ slice_index t m
  pub inside : k ≤ length t'
  pub token : tok t' k ≡ tok t k
  pub name : (j : ℕ) → Longest inner t (k + 1) j → Longest inner t' (k + 1) j × (slice t' k j ≡ slice t k j)

-- the token at k is the first that is refused, and c is why: by the rules of reading, and by the productions alone, in that
-- what stands before it begins a model, and no text with the same token there is one
pub record RefusedAt (t : List ℕ) (c : Cause) (k : ℕ) : Type 0 where
  pub reads : Whole t (bad c k)
  pub refutes : Refutes t c
  pub begun : Begun t k
  pub alike : (t' : List ℕ) → Alike t t' k → Refutes t' c
