-- What the reader answers. Assumes nothing.
use Rattle.std.specs.Prelude.{◌≡◌, ℕ, ◌<◌, ◌≤◌, List, ◌++◌, map, length, drop, Ok, Err, Result}
use Rattle.std.specs.List.{AllByRecursion}
use Rattle.faults.specs.declared.Fault.{Fault}
use Rattle.faults.specs.declared.Fault.TheVariants.{StrangeByte, Unexpected, LongName, TooDeep, TooLarge, ShortList}
use Rattle.faults.specs.declared.Layer.TheVariants.{Text}
use Rattle.symbols.specs.Rule.{IsName}
use Rattle.symbols.specs.NameRows.{name_row}
use Rattle.symbols.specs.declared.name_rows.NameRow.{NameRow}
use Rattle.grammar.specs.Grammar.{Model}
use Rattle.grammar.specs.Reads.{Cause, strange_byte, unexpected, long_name, too_deep, too_many}
use Rattle.grammar.specs.Refusals.{RefusedAt}
use Rattle.grammar.specs.Trees.{IsTree}
use Rattle.text_reader.specs.declared.Counts.{Counts}

-- the fault of a token that is refused at k
abbrev pub fault_of : Cause → ℕ → Fault
fault_of strange_byte k = StrangeByte k
fault_of unexpected k = Unexpected k
fault_of long_name k = LongName k
fault_of too_deep k = TooDeep k
fault_of too_many k = TooLarge Text k

-- the lists are long enough, and the text is short enough
pub record Fits (t cs : List ℕ) (rs : List NameRow) : Type 0 where
  pub codes : 1280 ≤ length cs
  pub names : 64 ≤ length rs
  pub short : length t ≤ 65535

-- why a text is refused with lists cs and rs, in the order in which it is judged: the list of codes, the list of names, the
-- text's length, then the first token that is refused
pub data Refused (t cs : List ℕ) (rs : List NameRow) : Fault → Type 0 where
  few_codes : length cs < 1280 → Refused t cs rs (ShortList Text 1280)
  few_names : 1280 ≤ length cs → length rs < 64 → Refused t cs rs (ShortList Text 64)
  long_text : 1280 ≤ length cs → 64 ≤ length rs → 65535 < length t → Refused t cs rs (TooLarge Text 65535)
  at_strange_byte : {k : ℕ} → Fits t cs rs → RefusedAt t strange_byte k → Refused t cs rs (StrangeByte k)
  at_unexpected : {k : ℕ} → Fits t cs rs → RefusedAt t unexpected k → Refused t cs rs (Unexpected k)
  at_long_name : {k : ℕ} → Fits t cs rs → RefusedAt t long_name k → Refused t cs rs (LongName k)
  at_too_deep : {k : ℕ} → Fits t cs rs → RefusedAt t too_deep k → Refused t cs rs (TooDeep k)
  at_too_many : {k : ℕ} → Fits t cs rs → RefusedAt t too_many k → Refused t cs rs (TooLarge Text k)

-- the text is a model within the limits, with codes w and names ns
pub record Within (t w : List ℕ) (ns : List (List ℕ)) : Type 0 where
  pub model : Model t 32 16 w ns
  pub few : length ns ≤ 64

-- the text is a model within the limits, and the lists are long enough
abbrev pub Readable : List ℕ → List ℕ → List NameRow → Type 0
Readable t cs rs = Fits t cs rs × ((w : List ℕ) × (ns : List (List ℕ)) × Within t w ns)

-- the text was read as the codes w and the names ns, the only ones that it has: they are those of a tree, each name is one,
-- and they stand in the first cells of the lists, whose other cells are as they were
pub record Taken (t cs : List ℕ) (rs : List NameRow) (r : Counts) (cs' : List ℕ) (rs' : List NameRow) (w : List ℕ) (ns : List (List ℕ)) : Type 0 where
  pub fits : Fits t cs rs
  pub within : Within t w ns
  pub only : (n d : ℕ) (v : List ℕ) (ms : List (List ℕ)) → Model t n d v ms → (v ≡ w) × (ms ≡ ns)
  pub tree : IsTree w ns
  pub are_names : AllByRecursion IsName ns
  pub codes : r.codes ≡ length w
  pub names : r.names ≡ length ns
  pub wrote : cs' ≡ w ++ drop (length w) cs
  pub named : rs' ≡ map name_row ns ++ drop (length ns) rs

-- the answer to a text with lists cs and rs, which become cs' and rs'
abbrev pub Answer : List ℕ → List ℕ → List NameRow → Result Counts Fault → List ℕ → List NameRow → Type 0
Answer t cs rs (Ok r) cs' rs' = (w : List ℕ) × (ns : List (List ℕ)) × Taken t cs rs r cs' rs' w ns
Answer t cs rs (Err f) cs' rs' = Refused t cs rs f × (cs' ≡ cs) × (rs' ≡ rs)

-- there is one answer, and one content of both lists afterwards
abbrev pub OneAnswer : Type 0
OneAnswer = (t cs : List ℕ) (rs : List NameRow) (r r' : Result Counts Fault) (c c' : List ℕ) (n n' : List NameRow) →
    Answer t cs rs r c n → Answer t cs rs r' c' n' → (r' ≡ r) × (c' ≡ c) × (n' ≡ n)
