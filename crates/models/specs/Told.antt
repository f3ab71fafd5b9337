-- The answers of the public calls. Assumes nothing.
use Rattle.std.specs.Prelude.{◌≡◌, ℕ, ◌≤◌, Bool, List, length, Some, None, Ok, Err, Option, Result}
use Rattle.faults.specs.declared.Fault.{Fault}
use Rattle.faults.specs.declared.Fault.TheVariants.{Ambiguous}
use Rattle.codes.specs.Checked.{WellFormed, Refused}
use Rattle.language.specs.Meaning.{Model, tree_of, body, Formed, Word, Longest, Unambiguous, LeastCompeting}
use Rattle.models.specs.declared.tables.Sets.{Sets}
use Rattle.models.specs.declared.pairs.Pair.{Pair}
use Rattle.models.specs.declared.trials.Trial.{Trial}
use Rattle.models.specs.declared.trials.Trial.TheVariants.{Yes, No}
use Rattle.models.specs.TablesOf.{Made, TablesOf}

-- the sets of codes over n symbols, with a list before and after the call: on refusal the list is as it was
abbrev pub SetsTold : ℕ → List ℕ → Result Sets Fault → List ℕ → List ℕ → Type 0
SetsTold n cs (Ok s) old new = WellFormed n cs × Made s n (tree_of n cs) old new
SetsTold n cs (Err f) old new = Refused n cs f × (new ≡ old)

module _ {S : Type 0} (same : S → S → Bool) where
  -- the first pair of positions that compete
  abbrev pub PairTold : Model S → Result (Option Pair) Fault → Type 0
  PairTold m (Ok None) = Formed m × Unambiguous same m
  PairTold m (Ok (Some p)) = Formed m × LeastCompeting same m p.first p.second
  PairTold m (Err f) = Refused (length m.symbols) m.codes f

  -- why a model is refused: its codes are, or it is ambiguous
  pub data Flawed (m : Model S) : Fault → Type 0 where
    refused : {f : Fault} → Refused (length m.symbols) m.codes f → Flawed m f
    ambiguous : {x y : ℕ} → Formed m → LeastCompeting same m x y → Flawed m (Ambiguous x y)

  -- the sets of a model that is not ambiguous; where the list has a cell for each position, they are the model's tables
  pub record Studied (m : Model S) (s : Sets) (old new : List ℕ) : Type 0 where
    pub formed : Formed m
    pub clear : Unambiguous same m
    pub made : Made s (length m.symbols) (body m) old new
    pub tables : length m.symbols ≤ length old → TablesOf same s new m.symbols m

  -- the sets of a model, with a list before and after the call: on refusal the list is as it was
  abbrev pub StudyTold : Model S → Result Sets Fault → List ℕ → List ℕ → Type 0
  StudyTold m (Ok s) old new = Studied m s old new
  StudyTold m (Err f) old new = Flawed m f × (new ≡ old)

  -- the word is one of the model, or how long its longest beginning is that also begins one
  abbrev pub TrialTold : Model S → List S → Trial → Type 0
  TrialTold m word Yes = Word same m word
  TrialTold m word (No n) = (Word same m word → ⊥) × Longest same m word n
