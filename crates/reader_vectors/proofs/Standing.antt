-- Which symbol stands at a place. Assumes nothing.
use Rattle.std.proofs.Common.{◌≡◌, ℕ, zero, suc, ◌+◌, ◌<◌, ◌≤◌, Bool, true, false, cond, ◌&&◌, ltb, List, [], ◌∷◌, length, get_or, Some, None, sym, refl, ap, arith}
use Rattle.symbols.specs.Kinds.{KindLaws}
use Rattle.tables.specs.Tables.{Alike}
use Rattle.tables.proofs.PlaceLaws.{same_right}
use Rattle.reader_vectors.specs.OneWords.{stands, one_word_table}

module _ {S : Type 0} (same : S → S → Bool) where
  pub stands_at : (word : List S) (x : ℕ) (s a : S) → x < length word → s ≡ get_or word x s → stands same word x a ≡ same s a
  stands_at [] x s a h e = absurd (omega arith)
  stands_at (b ∷ word) zero s a h e = ap (λ c. same c a) (sym e)
  stands_at (b ∷ word) (suc x) s a h e = stands_at word x s a (omega arith) e

  pub stands_past : (word : List S) (x : ℕ) (a : S) → length word ≤ x → stands same word x a ≡ false
  stands_past [] x a h = refl
  stands_past (b ∷ word) zero a h = absurd (omega arith)
  stands_past (b ∷ word) (suc x) a h = stands_past word x a (omega arith)
