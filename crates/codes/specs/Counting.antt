-- The limits of codes, and what the check of codes counts. Assumes nothing.
use Rattle.std.specs.Prelude.{◌≡◌, ℕ, ◌+◌, ◌<◌, ◌≤◌, ◌⊎◌, List, length, Some, None, Ok, Err, Option, Result}
use Rattle.faults.specs.declared.Fault.{Fault}
use Rattle.faults.specs.declared.Fault.TheVariants.{TooLarge}
use Rattle.faults.specs.declared.Layer.TheVariants.{Model}
use Rattle.codes.specs.declared.Tally.{Tally}
use Rattle.codes.specs.Tree.{Tree}
use Rattle.codes.specs.Build.{Next, goes, stops}

-- whether n symbols and the codes cs are few enough: the symbols are judged first
abbrev pub Limited : ℕ → List ℕ → Result (Unit {0}) Fault → Type 0
Limited n cs (Ok u) = (n ≤ 64) × (length cs ≤ 1280)
Limited n cs (Err f) = ((64 < n) × (f ≡ TooLarge Model 64)) ⊎ ((n ≤ 64) × (1280 < length cs) × (f ≡ TooLarge Model 1280))

-- what one code makes of a stack, by the number of its parts and of the symbols used
abbrev pub Advances : Option Tally → Next → Type 0
Advances None x = x ≡ stops
Advances (Some t) x = (s : List (Tree ℕ)) × (x ≡ goes s t.used) × (length s ≡ t.parts)

-- a code adds at most one part
abbrev pub OneMore : Option Tally → Tally → Type 0
OneMore None t = Unit {0}
OneMore (Some r) t = r.parts ≤ t.parts + 1
