-- What the calls from C answer: a number, and what is told beside it. Assumes nothing.
use Rattle.std.specs.Prelude.{◌≡◌, ℕ, List, Ok, Err, Result}
use Rattle.faults.specs.Card.{number, values}
use Rattle.faults.specs.declared.Fault.{Fault}
use Rattle.faults.specs.declared.Values.{Values}
use Rattle.faults.specs.declared.Values.TheVariants.{One, Two}
use Rattle.symbols.specs.declared.name_rows.NameRow.{NameRow}
use Rattle.text_reader.specs.Answer.{Answer}
use Rattle.text_reader.specs.declared.Counts.{Counts}
use Rattle.text_writer.specs.Writes.{Writes}
use Rattle.editor_text.specs.declared.Told.{Told}

-- two numbers, as they are told
abbrev pub tell : ℕ → ℕ → Told
tell a b = record { first = a; second = b }

-- one value and 0, or both values
abbrev pub both : Values → Told
both (One a) = tell a 0
both (Two a b) = tell a b

-- what a fault names
abbrev pub names_of : Fault → Told
names_of f = both (values f)

-- the number of a result is 0 or the fault's
abbrev pub number_of : {A : Type 0} → Result A Fault → ℕ
number_of (Ok a) = 0
number_of (Err f) = number f

-- the reader tells the number of codes and that of names
abbrev pub counts_of : Result Counts Fault → Told
counts_of (Ok c) = tell c.codes c.names
counts_of (Err f) = names_of f

-- the writer tells the length of the text
abbrev pub length_of : Result ℕ Fault → Told
length_of (Ok n) = tell n 0
length_of (Err f) = names_of f

-- the number n and what is told, t, are those of the reader's answer to a text with lists cs and rs, which become cs' and rs'
pub record ReadCall (text cs : List ℕ) (rs : List NameRow) (n : ℕ) (t : Told) (cs' : List ℕ) (rs' : List NameRow) : Type 0 where
  pub result : Result Counts Fault
  pub answer : Answer text cs rs result cs' rs'
  pub number : n ≡ number_of result
  pub tells : t ≡ counts_of result

-- the number n and what is told, t, are those of the writer's answer to codes cs and names rs with a list out, which becomes out'
pub record WriteCall (cs : List ℕ) (rs : List NameRow) (out : List ℕ) (n : ℕ) (t : Told) (out' : List ℕ) : Type 0 where
  pub result : Result ℕ Fault
  pub answer : Writes cs rs out result out'
  pub number : n ≡ number_of result
  pub tells : t ≡ length_of result

-- each call has one number, tells one thing, and leaves one content of its lists
abbrev pub OneRead : Type 0
OneRead = (text cs : List ℕ) (rs : List NameRow) (n n' : ℕ) (t t' : Told) (c c' : List ℕ) (r r' : List NameRow) →
    ReadCall text cs rs n t c r → ReadCall text cs rs n' t' c' r' → (n' ≡ n) × (t' ≡ t) × (c' ≡ c) × (r' ≡ r)

abbrev pub OneWrite : Type 0
OneWrite = (cs : List ℕ) (rs : List NameRow) (out : List ℕ) (n n' : ℕ) (t t' : Told) (o o' : List ℕ) →
    WriteCall cs rs out n t o → WriteCall cs rs out n' t' o' → (n' ≡ n) × (t' ≡ t) × (o' ≡ o)
