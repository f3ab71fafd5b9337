-- The pair that the tables of a model give, and the tables that a list keeps.
use Rattle.std.proofs.Common.{◌≡◌, ℕ, ◌+◌, ◌^◌, ◌<◌, ◌≤◌, Bool, List, ◌++◌, length, get_or, take, drop, Some, None, Ok, Option, sym, refl, ap, ◌∙◌, subst, arith}
use Rattle.std.proofs.lemmas.List.{take_all, get_or_append_left}
use Rattle.symbols.specs.Kinds.{KindLaws}
use Rattle.language.specs.Words.{Expr, Follows}
use Rattle.language.specs.Meaning.{Model, body, Formed, Unambiguous, LeastCompeting}
use Rattle.models.specs.declared.pairs.Pair.{Pair}
use Rattle.models.specs.declared.tables.Sets.{Sets}
use Rattle.models.specs.Bitsets.{ShowsSet}
use Rattle.models.specs.TablesOf.{SetsOf, Made}
use Rattle.models.specs.Clashes.{Found}
use Rattle.models.specs.Told.{PairTold, Studied}
use Rattle.models.proofs.Clashing.{found_least, found_none}

-- rows is the array of rows, of which the code takes as many as there are symbols
module _ {S : Type 0} (same : S → S → Bool) (m : Model S) (s : Sets) (rows : List ℕ) (w : Formed m)
    (even : length (take (length m.symbols) rows) ≡ length m.symbols)
    (t : SetsOf s (take (length m.symbols) rows) (length m.symbols) (body m)) where
  pub least : (p : Pair) → Found same m.symbols s.first (take (length m.symbols) rows) (length m.symbols) (Some p) → LeastCompeting same m p.first p.second
  least p f = found_least same m s (take (length m.symbols) rows) w even t (length m.symbols) p f

  pub none : {foreign : S → Bool} → KindLaws same foreign → Found same m.symbols s.first (take (length m.symbols) rows) (length m.symbols) None
      → Unambiguous same m
  none laws f = found_none same m s (take (length m.symbols) rows) w even t laws f

  pub pair_told : {foreign : S → Bool} → KindLaws same foreign → (o : Option Pair)
      → Found same m.symbols s.first (take (length m.symbols) rows) (length m.symbols) o → PairTold same m (Ok o)
  pair_told laws None f = (w, none laws f)
  pair_told laws (Some p) f = (w, least p f)

-- a list with a cell for each position keeps the sets
pub kept_sets : (s : Sets) (n : ℕ) (e : Expr) (old new : List ℕ) → Made s n e old new → n ≤ length old → SetsOf s new n e
kept_sets s n e old new d h =
    let all : take (length old) d.rows ≡ d.rows = take_all (length old) d.rows (omega (arith, d.even)) in
    let after : new ≡ d.rows ++ drop n old = d.after ∙ ap (λ l. l ++ drop n old) all in
    let cell : (x : ℕ) → x < n → get_or d.rows x 0 ≡ get_or new x 0 = λ x lt.
    sym (ap (λ l. get_or l x 0) after ∙ get_or_append_left d.rows (drop n old) 0 x (omega (arith, d.even))) in
    record {
      null = d.sets.null;
      begin = d.sets.begin;
      end = d.sets.end;
      follow = λ x lt. subst (λ a. ShowsSet a (Follows e (x + 1))) (cell x lt) (d.sets.follow x lt);
      first_within = d.sets.first_within;
      last_within = d.sets.last_within;
      row_within = λ x lt. subst (λ a. a < 2 ^ n) (cell x lt) (d.sets.row_within x lt);
    }

pub studied : {S : Type 0} (same : S → S → Bool) (m : Model S) (s : Sets) (old new : List ℕ) → Formed m → Unambiguous same m
    → Made s (length m.symbols) (body m) old new → Studied same m s old new
studied same m s old new w u d = record {
  formed = w;
  clear = u;
  made = d;
  tables = λ h. record { formed = w; clear = u; symbols = refl; sets = kept_sets s (length m.symbols) (body m) old new d h };
}
