-- Rows written over the beginning of a list.
use Rattle.std.proofs.Common.{◌≡◌, ℕ, List, ◌++◌, length, take, drop, ap, ◌∙◌}
use Rattle.language.specs.Words.{Expr}
use Rattle.models.specs.declared.tables.Sets.{Sets}
use Rattle.models.specs.TablesOf.{SetsOf, Made}

-- the first n of the rows, as the code cuts them off
pub made : (s : Sets) (n : ℕ) (rows : List ℕ) (e : Expr) (old new : List ℕ) → length (take n rows) ≡ n → SetsOf s (take n rows) n e
    → new ≡ take (length old) (take n rows) ++ drop (length (take n rows)) old → Made s n e old new
made s n rows e old new even h p =
    record { rows = take n rows; even = even; sets = h; after = p ∙ ap (λ j. take (length old) (take n rows) ++ drop j old) even }
