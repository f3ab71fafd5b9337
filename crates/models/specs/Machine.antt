-- The sets of the parts that codes have built, as the code keeps them. Assumes nothing.
use Rattle.std.specs.Prelude.{◌≡◌, ℕ, ◌+◌, ◌<◌, false, cond, ◌⊎◌, List, [], ◌∷◌, ◌++◌, length, take, Some, None, Ok, Err, Decides, Option, Result, bit_or, slice_index}
use Rattle.faults.specs.declared.Fault.{Fault}
use Rattle.faults.specs.declared.Fault.TheVariants.{Malformed}
use Rattle.codes.specs.Build.{Next, goes, stops, Built, model, fault}
use Rattle.codes.specs.Checked.{WellFormed, Refused}
use Rattle.language.specs.Words.{Expr}
use Rattle.language.specs.Sets.{Nullable, First, Last, Follow}
use Rattle.language.specs.Meaning.{tree_of}
use Rattle.models.specs.declared.tables.Sets.{Sets}
use Rattle.models.specs.declared.machine.Tables.{Tables}
use Rattle.models.specs.Bitsets.{bit, ShowsSet}
use Rattle.models.specs.TablesOf.{SetsOf}

-- p has the sets of the part e
pub record Shows (p : Sets) (e : Expr) : Type 0 where
  pub null : Decides p.nullable (Nullable e)
  pub begin : ShowsSet p.first (First e)
  pub end : ShowsSet p.last (Last e)

-- the sets of no part, as `Sets::default` gives them
abbrev pub no_sets : Sets
no_sets = record { nullable = false; first = 0; last = 0 }

-- ps are the sets of the parts s, whose last comes first
abbrev pub Stack : List Sets → List Expr → Type 0
Stack ps [] = ps ≡ []
Stack ps (e ∷ s) = (qs : List Sets) × (p : Sets) × (ps ≡ qs ++ p ∷ []) × Shows p e × Stack qs s

-- y follows x in a part of s
abbrev pub FollowAny : List Expr → ℕ → ℕ → Type 0
FollowAny [] x y = ⊥
FollowAny (e ∷ s) x y = Follow e x y ⊎ FollowAny s x y

-- row x has the followers of position x + 1 in the parts s
abbrev pub Rows : List ℕ → List Expr → Type 0
Rows rs s = (x : ℕ) → x < length rs → ShowsSet (slice_index rs x) (FollowAny s (x + 1))

-- the row of position x + 1, once each position of `last` has the positions of `first` as followers too
abbrev pub linked : ℕ → ℕ → ℕ → ℕ → ℕ
linked last first row x = cond (bit last x) (bit_or row first) row

-- ts are the rows rs, so linked
abbrev pub Linked : ℕ → ℕ → List ℕ → List ℕ → Type 0
Linked last first rs ts = (length ts ≡ length rs) × ((x : ℕ) → x < length rs → slice_index ts x ≡ linked last first (slice_index rs x) x)

-- what one code makes of the parts, of the number of symbols used and of the rows
abbrev pub Advanced : Option (Unit {0}) → Next → List Sets → ℕ → List ℕ → Type 0
Advanced None x ps n rs = x ≡ stops
Advanced (Some t) x ps n rs = (s : List Expr) × (x ≡ goes s n) × Stack ps s × Rows rs s

-- what all codes make
abbrev pub Evaluated : Result Sets Fault → Built → List ℕ → Type 0
Evaluated (Ok p) b rs = (e : Expr) × (b ≡ model e) × Shows p e × Rows rs (e ∷ [])
Evaluated (Err f) b rs = (i : ℕ) × (f ≡ Malformed i) × (b ≡ fault i)

-- the tables of codes over n symbols, in the first n of 64 rows
abbrev pub Tabulated : ℕ → List ℕ → Result Tables Fault → Type 0
Tabulated n cs (Ok t) = WellFormed n cs × (length (take n t.rows) ≡ n) × SetsOf t.sets (take n t.rows) n (tree_of n cs)
Tabulated n cs (Err f) = Refused n cs f
