-- The sets of a model, from those of its parts, and the lists of positions that they allow. Assumes nothing.
use Rattle.std.specs.Prelude.{◌≡◌, ℕ, ◌⊎◌, List, [], ◌∷◌}
use Rattle.codes.specs.Tree.{empty, leaf, then, either, maybe, many, some}
use Rattle.language.specs.Words.{Expr}

-- x is a position of the model
abbrev pub In : Expr → ℕ → Type 0
In empty x = ⊥
In (leaf k) x = x ≡ k
In (then l r) x = In l x ⊎ In r x
In (either l r) x = In l x ⊎ In r x
In (maybe e) x = In e x
In (many e) x = In e x
In (some e) x = In e x

-- no position stands at two symbols
abbrev pub Distinct : Expr → Type 0
Distinct empty = Unit {0}
Distinct (leaf k) = Unit {0}
Distinct (then l r) = Distinct l × Distinct r × ((x : ℕ) → In l x → In r x → ⊥)
Distinct (either l r) = Distinct l × Distinct r × ((x : ℕ) → In l x → In r x → ⊥)
Distinct (maybe e) = Distinct e
Distinct (many e) = Distinct e
Distinct (some e) = Distinct e

-- a word may be empty
abbrev pub Nullable : Expr → Type 0
Nullable empty = Unit {0}
Nullable (leaf k) = ⊥
Nullable (then l r) = Nullable l × Nullable r
Nullable (either l r) = Nullable l ⊎ Nullable r
Nullable (maybe e) = Unit {0}
Nullable (many e) = Unit {0}
Nullable (some e) = Nullable e

-- a word may begin with x
abbrev pub First : Expr → ℕ → Type 0
First empty x = ⊥
First (leaf k) x = x ≡ k
First (then l r) x = First l x ⊎ (Nullable l × First r x)
First (either l r) x = First l x ⊎ First r x
First (maybe e) x = First e x
First (many e) x = First e x
First (some e) x = First e x

-- a word may end with x
abbrev pub Last : Expr → ℕ → Type 0
Last empty x = ⊥
Last (leaf k) x = x ≡ k
Last (then l r) x = Last r x ⊎ (Nullable r × Last l x)
Last (either l r) x = Last l x ⊎ Last r x
Last (maybe e) x = Last e x
Last (many e) x = Last e x
Last (some e) x = Last e x

-- x may stand directly before y
abbrev pub Follow : Expr → ℕ → ℕ → Type 0
Follow empty x y = ⊥
Follow (leaf k) x y = ⊥
Follow (then l r) x y = (Follow l x y ⊎ Follow r x y) ⊎ (Last l x × First r y)
Follow (either l r) x y = Follow l x y ⊎ Follow r x y
Follow (maybe e) x y = Follow e x y
Follow (many e) x y = Follow e x y ⊎ (Last e x × First e y)
Follow (some e) x y = Follow e x y ⊎ (Last e x × First e y)

-- from x on through w, each adjacent pair is in F, and the last is in L
abbrev pub Run : (ℕ → ℕ → Type 0) → (ℕ → Type 0) → ℕ → List ℕ → Type 0
Run F L x [] = L x
Run F L x (y ∷ w) = F x y × Run F L y w

-- the sets of the model allow w: w is empty and the model nullable, or w begins with a first position, each adjacent pair follows,
-- and w ends with a last position
abbrev pub Local : Expr → List ℕ → Type 0
Local e [] = Nullable e
Local e (x ∷ w) = First e x × Run (Follow e) (Last e) x w
