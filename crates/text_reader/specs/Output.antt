-- What the output of the reader holds. Assumes nothing.
use Rattle.std.specs.Prelude.{◌≡◌, ℕ, ◌+◌, List, ◌++◌, map, length, take}
use Rattle.symbols.specs.NameRows.{name_row}
use Rattle.text_reader.specs.declared.output.Output.{Output}

-- how many names the output has
abbrev pub names_in : Output → ℕ
names_in o = length o.rows.items

-- the output holds the codes w, as far as it has cells, and the names ns
pub record Holds (o : Output) (w : List ℕ) (ns : List (List ℕ)) : Type 0 where
  pub kept : o.codes.items ≡ take 1280 w
  pub named : o.rows.items ≡ map name_row ns

-- from o to p the output grew by the codes w and the names ns
pub record Grew (o p : Output) (w : List ℕ) (ns : List (List ℕ)) : Type 0 where
  pub found : names_in p ≡ names_in o + length ns
  pub holds : (u : List ℕ) (us : List (List ℕ)) → Holds o u us → Holds p (u ++ w) (us ++ ns)
