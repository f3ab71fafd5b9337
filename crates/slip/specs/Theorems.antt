-- The theorem on slips that a contract names. Assumes nothing.
use Rattle.std.specs.Prelude.{◌≡◌, ℕ, Bool, List}
use Rattle.slip.specs.Printed.{Printed}

-- for the same bytes the same is printed, and the same said of faults
abbrev pub OneSlip : Type 0
OneSlip = (bytes out out' : List ℕ) (whole whole' : Bool) → Printed bytes out whole → Printed bytes out' whole' → (out ≡ out') × (whole ≡ whole')
