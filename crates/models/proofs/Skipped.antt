-- The symbols past the first n, with their indices, as a loop that skips takes them.
use Rattle.std.proofs.Common.{◌≡◌, ℕ, ◌+◌, ◌<◌, ◌≤◌, List, length, get_or, drop, sym, ap, ◌∙◌, arith}
use Rattle.std.proofs.lemmas.List.{get_or-drop, length-drop}
use Rattle.std.proofs.lemmas.List.FromFn.{get_or-enumerate_from, length-enumerate_from}
use Rattle.std.specs.List.{enumerate_from}

-- where the item of turn i stands
pub record SkippedAt {S : Type 0} (xs : List S) (n i y : ℕ) (b : S) : Type 0 where
  pub index : y ≡ n + i
  pub within : y < length xs
  pub item : b ≡ get_or xs y b

pub skipped : {S : Type 0} (xs : List S) (n i y : ℕ) (b : S)
    → (i < length (drop n (enumerate_from 0 xs))) × ((y, b) ≡ get_or (drop n (enumerate_from 0 xs)) i (y, b)) → SkippedAt xs n i y b
skipped xs n i y b h =
    let all = enumerate_from 0 xs in
    let within : n + i < length xs = omega (arith, h.0, length-drop n all, length-enumerate_from 0 xs) in
    let e = h.1 ∙ get_or-drop n all i (y, b) ∙ get_or-enumerate_from 0 xs (n + i) (y, b) within in
    let first = ap (λ p. p.0) e in
    let index : y ≡ n + i = omega arith in
    record { index = index; within = omega arith; item = ap (λ p. p.1) e ∙ ap (λ j. get_or xs j b) (sym index) }

-- all have come
pub skipped_all : {S : Type 0} (xs : List S) (n i : ℕ) → i ≡ length (drop n (enumerate_from 0 xs)) → length xs ≤ n + i
skipped_all xs n i h = omega (arith, length-drop n (enumerate_from 0 xs), length-enumerate_from 0 xs)
