-- What holds of every text that is a model. Assumes nothing.
use Rattle.std.specs.Prelude.{◌≡◌, ℕ, ◌≤◌, List, length}
use Rattle.std.specs.List.{AllByRecursion}
use Rattle.symbols.specs.Rule.{IsName}
use Rattle.grammar.specs.Grammar.{Model}
use Rattle.grammar.specs.Reads.{Outcome, Whole}
use Rattle.grammar.specs.Trees.{IsTree}

-- a text has at most one list of codes and one of names, whatever the limits
abbrev pub OneReading : Type 0
OneReading = (t : List ℕ) (n d n' d' : ℕ) (w w' : List ℕ) (ns ns' : List (List ℕ)) → Model t n d w ns →
    Model t n' d' w' ns' → (w' ≡ w) × (ns' ≡ ns)

-- a model with at most 16 levels and 64 names has at most 1,280 codes
abbrev pub CodesFit : Type 0
CodesFit = (t : List ℕ) (n : ℕ) (w : List ℕ) (ns : List (List ℕ)) → Model t n 16 w ns → length ns ≤ 64 → length w ≤ 1280

-- the codes and the names of a model are those of a tree, which is the empty word alone or has none
abbrev pub GivesTree : Type 0
GivesTree = (t : List ℕ) (n d : ℕ) (w : List ℕ) (ns : List (List ℕ)) → Model t n d w ns → IsTree w ns

-- where no name of a model has over 32 bytes, each is a name
abbrev pub GivesNames : Type 0
GivesNames = (t : List ℕ) (d : ℕ) (w : List ℕ) (ns : List (List ℕ)) → Model t 32 d w ns → AllByRecursion IsName ns

-- the rules of reading give a text at most one outcome
abbrev pub OneOutcome : Type 0
OneOutcome = (t : List ℕ) (o o' : Outcome) → Whole t o → Whole t o' → o' ≡ o
