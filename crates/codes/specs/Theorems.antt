-- The theorems on codes that contracts name. Assumes nothing.
use Rattle.std.specs.Prelude.{◌≡◌, ℕ, List, Result}
use Rattle.faults.specs.declared.Fault.{Fault}
use Rattle.codes.specs.Tree.{Tree, empty, leaf, then, either, maybe, many, some, postfix, leaves}
use Rattle.codes.specs.Build.{build, model, fault}
use Rattle.codes.specs.Checked.{CodesOf, FirstFault, Checked}

-- a tree without what stands at its symbols
abbrev pub shape : {A : Type 0} → Tree A → Tree (Unit {0})
shape empty = empty
shape (leaf a) = leaf tt
shape (then l r) = then (shape l) (shape r)
shape (either l r) = either (shape l) (shape r)
shape (maybe e) = maybe (shape e)
shape (many e) = many (shape e)
shape (some e) = some (shape e)

-- the codes of a tree determine its shape, and with what stands at its symbols the tree
pub record OneTree (A : Type 0) : Type 0 where
  pub one_shape : (x y : Tree A) → postfix x ≡ postfix y → shape x ≡ shape y
  pub one_tree : (x y : Tree A) → postfix x ≡ postfix y → leaves x ≡ leaves y → x ≡ y

-- building and writing in postfix order are inverse, and a list that builds nothing fails at its first fault
pub record Building : Type 0 where
  pub builds : (n : ℕ) (cs : List ℕ) (e : Tree ℕ) → CodesOf n cs e → build n cs ≡ model e
  pub built : (n : ℕ) (cs : List ℕ) (e : Tree ℕ) → build n cs ≡ model e → CodesOf n cs e
  pub fails : (n : ℕ) (cs : List ℕ) (i : ℕ) → FirstFault n cs i → build n cs ≡ fault i
  pub failed : (n : ℕ) (cs : List ℕ) (i : ℕ) → build n cs ≡ fault i → FirstFault n cs i

-- each list of codes has one answer
abbrev pub OneAnswer : Type 0
OneAnswer = (n : ℕ) (cs : List ℕ) (r s : Result (Unit {0}) Fault) → Checked n cs r → Checked n cs s → r ≡ s
