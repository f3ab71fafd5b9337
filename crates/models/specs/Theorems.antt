-- The theorems on the answers of the public calls that contracts name. Assumes nothing.
use Rattle.std.specs.Prelude.{◌≡◌, ℕ, Bool, List, Option, Result}
use Rattle.faults.specs.declared.Fault.{Fault}
use Rattle.language.specs.Meaning.{Model}
use Rattle.models.specs.declared.tables.Sets.{Sets}
use Rattle.models.specs.declared.pairs.Pair.{Pair}
use Rattle.models.specs.declared.trials.Trial.{Trial}
use Rattle.models.specs.Stepping.{Steps}
use Rattle.models.specs.Told.{SetsTold, PairTold, StudyTold, TrialTold}

-- each call has one answer, and leaves its list with one content
pub record OneAnswer {S : Type 0} (same : S → S → Bool) : Type 0 where
  pub sets : (n : ℕ) (cs old : List ℕ) (r t : Result Sets Fault) (a b : List ℕ) → SetsTold n cs r old a → SetsTold n cs t old b → (r ≡ t) × (a ≡ b)
  pub competing : (m : Model S) (r t : Result (Option Pair) Fault) → PairTold same m r → PairTold same m t → r ≡ t
  pub study : (m : Model S) (old : List ℕ) (r t : Result Sets Fault) (a b : List ℕ) → StudyTold same m r old a → StudyTold same m t old b → (r ≡ t) × (a ≡ b)
  pub step : (s : Sets) (rows : List ℕ) (xs : List S) (x : ℕ) (a : S) (r t : Option ℕ) → Steps same s rows xs x a r → Steps same s rows xs x a t → r ≡ t
  pub trial : (m : Model S) (word : List S) (r t : Trial) → TrialTold same m word r → TrialTold same m word t → r ≡ t
