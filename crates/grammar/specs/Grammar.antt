-- The productions of a content specification, as XML 1.0 has them. `Is t n s d i j w ns` says that from i up to j in the
-- text t stands what s names, that its codes are w and its names ns, in their order, that no name has over n bytes, and that
-- no bracket opens a level past the d-th. The codes are those of postfix order: 0 the empty word, 1 a name, 2 a comma,
-- 3 a bar, 4 '?', 5 '*' and 6 '+'. Assumes nothing.
use Rattle.std.specs.Prelude.{◌≡◌, ℕ, ◌+◌, ◌≤◌, true, List, [], ◌∷◌, ◌++◌, length, codes, slice_index}
use Rattle.symbols.specs.Rule.{start, inner}
use Rattle.tokens.specs.Bytes.{white}
use Rattle.tokens.specs.Tokens.{While, slice}
use Rattle.grammar.specs.declared.Chain.{Chain}
use Rattle.grammar.specs.declared.Chain.TheVariants.{Choice, Seq}

-- the sign between the particles of a group: '|' or ','
abbrev pub sign : Chain → ℕ
sign Choice = 124
sign Seq = 44

-- the code of that sign
abbrev pub code : Chain → ℕ
code Choice = 3
code Seq = 2

-- Name: from i up to k stands a name start, then bytes that a name may have behind its first, in all at most n
pub record Name (t : List ℕ) (n i k : ℕ) : Type 0 where
  pub first : start (slice_index t i) ≡ true
  pub later : While inner t (i + 1) k
  pub short : k ≤ i + n

-- '?', '*' or '+', and its code
pub data MarkOf (b m : ℕ) : Type 0 where
  is_query : b ≡ 63 → m ≡ 4 → MarkOf b m
  is_star : b ≡ 42 → m ≡ 5 → MarkOf b m
  is_plus : b ≡ 43 → m ≡ 6 → MarkOf b m

-- ('?' | '*' | '+')?, with the code of the mark, if there is one
pub data Marks (t : List ℕ) : ℕ → ℕ → List ℕ → Type 0 where
  unmarked : {i : ℕ} → Marks t i i []
  with_mark : {i m : ℕ} → MarkOf (slice_index t i) m → Marks t i (i + 1) (m ∷ [])

-- the productions of children: cp, choice, seq, and the rest of a group behind one of its particles
pub data Sym : Type 0 where
  cp : Sym
  choice : Sym
  seq : Sym
  rest : Chain → Sym

-- what stands from i up to j by the productions of children
pub data Is (t : List ℕ) (n : ℕ) : Sym → ℕ → ℕ → ℕ → List ℕ → List (List ℕ) → Type 0 where
  -- cp ::= (Name | choice | seq) ('?' | '*' | '+')?
  cp_name : {d i k j : ℕ} {m : List ℕ} → Name t n i k → Marks t k j m → Is t n cp d i j (1 ∷ m) (slice t i k ∷ [])
  cp_choice : {d i k j : ℕ} {w m : List ℕ} {ns : List (List ℕ)} → Is t n choice d i k w ns → Marks t k j m →
      Is t n cp d i j (w ++ m) ns
  cp_seq : {d i k j : ℕ} {w m : List ℕ} {ns : List (List ℕ)} → Is t n seq d i k w ns → Marks t k j m →
      Is t n cp d i j (w ++ m) ns
  -- choice ::= '(' S? cp ( S? '|' S? cp )+ S? ')': the first sign is a bar, so there is one
  is_choice : {d e i b k l j : ℕ} {w v : List ℕ} {ns ms : List (List ℕ)} → slice_index t i ≡ 40 → d ≡ e + 1 →
      While white t (i + 1) b → Is t n cp e b k w ns → While white t k l → slice_index t l ≡ 124 →
      Is t n (rest Choice) e k j v ms → Is t n choice d i j (w ++ v) (ns ++ ms)
  -- seq ::= '(' S? cp ( S? ',' S? cp )* S? ')'
  is_seq : {d e i b k j : ℕ} {w v : List ℕ} {ns ms : List (List ℕ)} → slice_index t i ≡ 40 → d ≡ e + 1 →
      While white t (i + 1) b → Is t n cp e b k w ns → Is t n (rest Seq) e k j v ms →
      Is t n seq d i j (w ++ v) (ns ++ ms)
  -- ( S? sign S? cp )* S? ')'
  rest_done : {g : Chain} {d i l : ℕ} → While white t i l → slice_index t l ≡ 41 → Is t n (rest g) d i (l + 1) [] []
  rest_next : {g : Chain} {d i l b k j : ℕ} {w v : List ℕ} {ns ms : List (List ℕ)} → While white t i l →
      slice_index t l ≡ sign g → While white t (l + 1) b → Is t n cp d b k w ns → Is t n (rest g) d k j v ms →
      Is t n (rest g) d i j ((w ++ (code g ∷ [])) ++ v) (ns ++ ms)

-- ( S? '|' S? Name )* S? ')': the names of a mixed model behind its first
pub data Listed (t : List ℕ) (n : ℕ) : ℕ → ℕ → List ℕ → List (List ℕ) → Type 0 where
  listed_done : {i l : ℕ} → While white t i l → slice_index t l ≡ 41 → Listed t n i (l + 1) [] []
  listed_next : {i l b k j : ℕ} {v : List ℕ} {ms : List (List ℕ)} → While white t i l → slice_index t l ≡ 124 →
      While white t (l + 1) b → Name t n b k → Listed t n k j v ms → Listed t n i j (1 ∷ (3 ∷ v)) (slice t b k ∷ ms)

-- Mixed ::= '(' S? '#PCDATA' (S? '|' S? Name)* S? ')*' | '(' S? '#PCDATA' S? ')'
pub data Mixed (t : List ℕ) (n : ℕ) : ℕ → ℕ → List ℕ → List (List ℕ) → Type 0 where
  text_alone : {i b l : ℕ} → slice_index t i ≡ 40 → While white t (i + 1) b → slice t b (b + 7) ≡ codes "#PCDATA" →
      While white t (b + 7) l → slice_index t l ≡ 41 → Mixed t n i (l + 1) (0 ∷ []) []
  text_star : {i b l : ℕ} → slice_index t i ≡ 40 → While white t (i + 1) b → slice t b (b + 7) ≡ codes "#PCDATA" →
      While white t (b + 7) l → slice_index t l ≡ 41 → slice_index t (l + 1) ≡ 42 → Mixed t n i (l + 1 + 1) (0 ∷ []) []
  text_names : {i b l x k j : ℕ} {v : List ℕ} {ms : List (List ℕ)} → slice_index t i ≡ 40 → While white t (i + 1) b →
      slice t b (b + 7) ≡ codes "#PCDATA" → While white t (b + 7) l → slice_index t l ≡ 124 → While white t (l + 1) x →
      Name t n x k → Listed t n k j v ms → slice_index t j ≡ 42 →
      Mixed t n i (j + 1) ((1 ∷ v) ++ (5 ∷ [])) (slice t x k ∷ ms)

-- contentspec ::= 'EMPTY' | Mixed | children, with children ::= (choice | seq) ('?' | '*' | '+')?
pub data ContentSpec (t : List ℕ) (n d : ℕ) : ℕ → ℕ → List ℕ → List (List ℕ) → Type 0 where
  empty : {i : ℕ} → slice t i (i + 5) ≡ codes "EMPTY" → ContentSpec t n d i (i + 5) (0 ∷ []) []
  mixed : {i j : ℕ} {w : List ℕ} {ns : List (List ℕ)} → Mixed t n i j w ns → ContentSpec t n d i j w ns
  children_choice : {i k j : ℕ} {w m : List ℕ} {ns : List (List ℕ)} → Is t n choice d i k w ns → Marks t k j m →
      ContentSpec t n d i j (w ++ m) ns
  children_seq : {i k j : ℕ} {w m : List ℕ} {ns : List (List ℕ)} → Is t n seq d i k w ns → Marks t k j m →
      ContentSpec t n d i j (w ++ m) ns

-- the whole text is a content specification, with white space around it or none
pub record Model (t : List ℕ) (n d : ℕ) (w : List ℕ) (ns : List (List ℕ)) : Type 0 where
  pub from : ℕ
  pub to : ℕ
  pub before : While white t 0 from
  pub spec : ContentSpec t n d from to w ns
  pub after : While white t to (length t)
