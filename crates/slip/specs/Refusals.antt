-- How a refusal is printed. Assumes nothing.
use Rattle.std.specs.Prelude.{ℕ, List, ◌++◌, codes, decimal}
use Rattle.faults.specs.Shown.{numbered_shown, fault_shown}
use Rattle.slip.specs.declared.refusals.Refusal.{Refusal}
use Rattle.slip.specs.declared.refusals.Refusal.TheVariants.{Book, Body}

-- as `book: 13 at 0` or `body 1: text 2 at 11`
abbrev pub refusal_shown : Refusal → List ℕ
refusal_shown (Book f) = codes "book: " ++ numbered_shown f
refusal_shown (Body k f) = codes "body " ++ (decimal k ++ (codes ": " ++ fault_shown f))
