-- Names matched beforehand: the positions that have a name, and a reader that is given them. Assumes nothing.
use Rattle.std.specs.Prelude.{◌≡◌, ℕ, zero, suc, ◌+◌, ◌<◌, min, Bool, false, cond, List, [], ◌∷◌, length, get_or, Some, None, Option, nat_eq, slice_index_or, refl}
use Rattle.std.proofs.Common.{sym, ap, ◌∙◌}
use Rattle.std.proofs.lemmas.Bool.{eq-eqb, eqb-true}
use Rattle.symbols.specs.Kinds.{KindLaws}
use Rattle.symbols.specs.NameRows.{name_same}
use Rattle.symbols.specs.declared.name_rows.NameRow.{NameRow}
use Rattle.models.specs.declared.tables.Sets.{Sets}
use Rattle.tables.specs.Tables.{Table, Alike}
use Rattle.tables.specs.Places.{bit, place_table}
use Rattle.editor.specs.declared.matching.Namesakes.{Namesakes}

-- sameness of sets of positions is equality
pub namesake_laws : KindLaws (λ (a b : Namesakes). nat_eq a.positions b.positions) (λ (a : Namesakes). false)
namesake_laws = record {
  reflexive = λ a. eq-eqb _ _ refl;
  symmetric = λ a b s. eq-eqb _ _ (sym (eqb-true _ _ s));
  transitive = λ a b c s t. eq-eqb _ _ (eqb-true _ _ s ∙ eqb-true _ _ t);
  alike = λ a b s. refl;
}

-- bit k of the set is set exactly where name k of the names is the same as the name
abbrev pub Marks : ℕ → NameRow → List NameRow → Type 0
Marks set name names = (k : ℕ) (d : NameRow) → k < length names → bit set k ≡ name_same (slice_index_or names k d) name

-- each of the sets is that of the name at its place
abbrev pub MarksAll : List Namesakes → List NameRow → List NameRow → Type 0
MarksAll sets firsts names = (j : ℕ) (s : Namesakes) (d : NameRow) → j < length firsts → Marks (get_or sets j s).positions (slice_index_or firsts j d) names

-- the numbers of n positions from i on, as what stands at the places of a table
abbrev pub markers : ℕ → ℕ → List Namesakes
markers i zero = []
markers i (suc n) = (record { positions = i }) ∷ markers (i + 1) n

-- the set has the position of the marker
abbrev pub meets : Namesakes → Namesakes → Bool
meets marker set = bit set.positions marker.positions

-- the table of a reader by the positions that a name has: that of a place of n positions, but that a set is asked and not a name
abbrev pub match_table : Sets → List ℕ → ℕ → Table Namesakes
match_table s rows n = place_table meets (markers 0 (min 64 n)) rows s.first s.last s.nullable

-- the same sets of positions lead alike
pub match_alike : (s : Sets) (rows : List ℕ) (n : ℕ) → Alike (λ (a b : Namesakes). nat_eq a.positions b.positions) (match_table s rows n)
match_alike s rows n x a b e = ap (λ (p : ℕ). (match_table s rows n).goes x (record { positions = p })) (eqb-true a.positions b.positions e)

-- the position of the first bit of the set from i on, of n bits
abbrev pub lowest : ℕ → ℕ → ℕ → Option ℕ
lowest zero i set = None
lowest (suc n) i set = cond (bit set i) (Some (i + 1)) (lowest n (i + 1) set)
