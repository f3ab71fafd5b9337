use Rattle.std.proofs.Common.{◌≡◌, ℕ, ◌<◌, List, [], map, length, get_or, Ok, Err, Option, Some, None, Result, MatchOption, MatchResult, sym, refl, subst, arith, rules, tests}
use Rattle.std.specs.List.{AllWithin, HoldsAt}
use Rattle.std.proofs.lemmas.List.{get_or-map, length-map}
use Rattle.std.proofs.lemmas.Iterator.{IsFirst-from_position, YieldsList-from_slice}
use Rattle.faults.specs.declared.Fault.{Fault}
use Rattle.faults.specs.declared.Fault.TheVariants.{Unwritable}
use Rattle.symbols.specs.Rule.{IsName}
use Rattle.symbols.specs.NameRows.{row_bytes, name_row}
use Rattle.symbols.specs.declared.name_rows.NameRow.{NameRow}
use Rattle.text_writer.specs.Writes.{AllNames, FirstNoName}
use Rattle.text_writer.proofs.checks.check_names.Goals as goal

abbrev Names : NameRow → Type 0
Names r = IsName (row_bytes r)

-- the names of rows are the rows' names
name_at : (rs : List NameRow) (k : ℕ) → k < length rs → Names (get_or rs k (name_row [])) → IsName (get_or (map row_bytes rs) k [])
name_at rs k h f = subst IsName (sym (get_or-map row_bytes rs k (name_row []) [] h)) f

first_refused : (rs : List NameRow) (p : Option ℕ) (r : Result (Unit {0}) Fault)
    → MatchOption p (AllWithin Names rs 0 (length rs)) (λ i. (i < length rs) × HoldsAt (λ row. Names row → ⊥) rs i × AllWithin Names rs 0 i)
    → MatchOption p (r ≡ Ok tt) (λ i. r ≡ Err (Unwritable i))
    → MatchResult r (λ _. AllNames (map row_bytes rs)) (λ f. (i : ℕ) × (f ≡ Unwritable i) × FirstNoName (map row_bytes rs) i)
first_refused rs None r a e = rw e (λ k h. let long : k < length rs = simp length-map at h in name_at rs k long (a k (name_row []) (omega arith) long))
first_refused rs (Some i) r a e = rw e (
  i,
  refl,
  record {
    inside = simp length-map a.0;
    here = λ f. a.1 (name_row []) (subst IsName (get_or-map row_bytes rs i (name_row []) [] a.0) f);
    first = λ k h. name_at rs k (omega (arith, a.0)) (a.2 k (name_row []) (omega arith) h);
  },
)

pub returns : goal.returns
returns c =
    let rs = c.args.names.now in
    first_refused rs c.position.result c.refuse_at.result
    (IsFirst-from_position _ _ c.position.result (λ row. Names row → ⊥) Names c.position.ensures.ran (YieldsList-from_slice rs c.iter.ensures.rest) (λ x q k. search (rules, tests)) (λ x q k. search (rules, tests)))
    c.refuse_at.ensures
