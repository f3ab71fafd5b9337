-- What a list of postfix codes builds, code by code, or where it fails: code 0 is the empty word, 1 the next unused symbol,
-- 2 (then) and 3 (either) take two parts, 4 ('?'), 5 ('*') and 6 ('+') take one. Positions are counted from 1.
-- Assumes nothing.
use Rattle.std.specs.Prelude.{ℕ, zero, suc, ◌+◌, Bool, true, false, List, [], ◌∷◌, ◌==◌, nat_lt}
use Rattle.codes.specs.Tree.{Tree, empty, leaf, then, either, maybe, many, some}

-- what one code makes of the parts, the last first, and of the number of symbols used
pub data Next : Type 0 where
  goes : List (Tree ℕ) → ℕ → Next
  stops : Next

-- a model, or the index of the first code at fault, or the number of codes where the end is at fault
pub data Built : Type 0 where
  model : Tree ℕ → Built
  fault : ℕ → Built

abbrev pub fresh : Bool → List (Tree ℕ) → ℕ → Next
fresh true s n = goes (leaf (n + 1) ∷ s) (n + 1)
fresh false s n = stops

abbrev pub unary : (Tree ℕ → Tree ℕ) → List (Tree ℕ) → ℕ → Next
unary f [] n = stops
unary f (e ∷ s) n = goes (f e ∷ s) n

abbrev pub binary : (Tree ℕ → Tree ℕ → Tree ℕ) → List (Tree ℕ) → ℕ → Next
binary f [] n = stops
binary f (r ∷ []) n = stops
binary f (r ∷ (l ∷ s)) n = goes (f l r ∷ s) n

-- a numeral cannot stand in a pattern: 0 to 6, and above
abbrev pub step : ℕ → ℕ → List (Tree ℕ) → ℕ → Next
step count zero s n = goes (empty ∷ s) n
step count (suc zero) s n = fresh (nat_lt n count) s n
step count (suc (suc zero)) s n = binary then s n
step count (suc (suc (suc zero))) s n = binary either s n
step count (suc (suc (suc (suc zero)))) s n = unary maybe s n
step count (suc (suc (suc (suc (suc zero))))) s n = unary many s n
step count (suc (suc (suc (suc (suc (suc zero)))))) s n = unary some s n
step count (suc (suc (suc (suc (suc (suc (suc c))))))) s n = stops

abbrev pub all_used : Bool → ℕ → Tree ℕ → Built
all_used true i e = model e
all_used false i e = fault i

abbrev pub finish : ℕ → ℕ → List (Tree ℕ) → ℕ → Built
finish count i [] n = fault i
finish count i (e ∷ []) n = all_used (n == count) i e
finish count i (e ∷ (f ∷ s)) n = fault i

abbrev pub after : ℕ → (List (Tree ℕ) → ℕ → Built) → Next → Built
after i k (goes s n) = k s n
after i k stops = fault i

abbrev pub build_on : ℕ → ℕ → List (Tree ℕ) → ℕ → List ℕ → Built
build_on count i s n [] = finish count i s n
build_on count i s n (c ∷ cs) = after i (λ t m. build_on count (i + 1) t m cs) (step count c s n)

-- what the codes build, with count symbols at hand
abbrev pub build : ℕ → List ℕ → Built
build count codes = build_on count 0 [] 0 codes
