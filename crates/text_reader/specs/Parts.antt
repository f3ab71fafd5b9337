-- What the reading of each part answers, where the output is o before it and p after it. Assumes nothing.
use Rattle.std.specs.Prelude.{◌≡◌, ℕ, ◌+◌, ◌<◌, ◌≤◌, ◌⊎◌, List, [], ◌∷◌, length, Ok, Err, Result}
use Rattle.faults.specs.declared.Fault.{Fault}
use Rattle.faults.specs.declared.Fault.TheVariants.{LongName, TooLarge}
use Rattle.faults.specs.declared.Layer.TheVariants.{Text}
use Rattle.grammar.specs.Reads.{Cause, Outcome, good, bad, Part, Reads, Mark, Mixes, Opens, Whole}
use Rattle.text_reader.specs.Answer.{fault_of}
use Rattle.text_reader.specs.Output.{names_in, Holds, Grew}
use Rattle.text_reader.specs.declared.output.Output.{Output}

-- some token is refused, and x is its fault
abbrev pub Refuses : (Outcome → Type 0) → Fault → Type 0
Refuses P x = (c : Cause) × (k : ℕ) × P (bad c k) × (x ≡ fault_of c k)

-- a part was read from i up to j, with codes w and names ns
pub record Read (t : List ℕ) (i j : ℕ) (o p : Output) (w : List ℕ) (ns : List (List ℕ)) : Type 0 where
  pub on : i < j
  pub inside : j ≤ length t
  pub grew : Grew o p w ns

-- the part s from i on, where e more levels may be opened: it ends at j, or a token is refused
abbrev pub Did : Part → ℕ → List ℕ → ℕ → Output → Result ℕ Fault → Output → Type 0
Did s e t i o (Ok j) p = (w : List ℕ) × (ns : List (List ℕ)) × Reads t s e i (names_in o) (good j w ns) ×
    Read t i j o p w ns
Did s e t i o (Err x) p = Refuses (λ r. Reads t s e i (names_in o) r) x

-- the mark at i, if any, up to j
abbrev pub DidMark : List ℕ → ℕ → Output → ℕ → Output → Type 0
DidMark t i o j p = (m : List ℕ) × Mark t i j m × (i ≤ j) × (j ≤ length t) × Grew o p m []

-- a mixed model behind its #PCDATA, from i on
abbrev pub DidMix : List ℕ → ℕ → Output → Result ℕ Fault → Output → Type 0
DidMix t i o (Ok j) p = (w : List ℕ) × (ns : List (List ℕ)) × Mixes t i (good j w ns) × (j ≤ length t) × Grew o p w ns
DidMix t i o (Err x) p = Refuses (λ r. Mixes t i r) x

-- a content specification, from i on
abbrev pub DidOpen : List ℕ → ℕ → Output → Result ℕ Fault → Output → Type 0
DidOpen t i o (Ok j) p = (w : List ℕ) × (ns : List (List ℕ)) × Opens t i (good j w ns) × (j ≤ length t) × Grew o p w ns
DidOpen t i o (Err x) p = Refuses (λ r. Opens t i r) x

-- the whole text
abbrev pub DidWhole : List ℕ → Result ℕ Fault → Output → Type 0
DidWhole t (Ok j) p = (w : List ℕ) × (ns : List (List ℕ)) × Whole t (good j w ns) × (j ≤ length t) × Holds p w ns
DidWhole t (Err x) p = Refuses (λ r. Whole t r) x

-- the name of the bytes n at b is kept, and ends at k; or it is refused
abbrev pub Keeps : List ℕ → ℕ → Output → Result ℕ Fault → Output → Type 0
Keeps n b o (Ok k) p = (k ≡ b + length n) × (length n ≤ 32) × (names_in o < 64) × Grew o p (1 ∷ []) (n ∷ [])
Keeps n b o (Err x) p = ((32 < length n) × (x ≡ LongName b)) ⊎ ((length n ≤ 32) × (64 ≤ names_in o) × (x ≡ TooLarge Text b))
