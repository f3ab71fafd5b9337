-- From a comparison of tables to the verdict on two models. Assumes nothing.
use Rattle.std.proofs.Common.{◌≡◌, ℕ, ◌+◌, ◌*◌, ◌≤◌, ◌↔◌, List, length, take, Result, sym, ap, ◌∙◌, subst, mul-le-mul, arith, Option}
use Rattle.std.proofs.lemmas.List.{length-take}
use Rattle.faults.specs.declared.Fault.{Fault}
use Rattle.symbols.specs.NameRows.{name_same, name_laws}
use Rattle.symbols.specs.declared.name_rows.NameRow.{NameRow}
use Rattle.language.specs.Meaning.{Model, Word}
use Rattle.product.specs.Compares.{pairs, Searched, CompareSays, little_work, little_word, included, missed}
use Rattle.product.specs.Pairs.{product}
use Rattle.product.proofs.Says.{searched_says}
use Rattle.tables.specs.Tables.{Table}
use Rattle.tables.proofs.PlaceLaws.{place_sound, place_alike}
use Rattle.tables.specs.Words.{Takes}
use Rattle.shelf.specs.Places.{cells, table_from}
use Rattle.shelf.proofs.Reading.{takes_word, word_takes}
use Rattle.verdicts.proofs.Compared.{taken_included, astray_missed}
use Rattle.editor.specs.declared.studying.Studied.{Studied}
use Rattle.editor.specs.declared.matching.Namesakes.{Namesakes}
use Rattle.editor.specs.Matching.{MarksAll, match_table}
use Rattle.editor.proofs.Alike.{same_walk, front_marks}
use Rattle.editor.specs.Tabled.{Tabled, names_of, pairs_of, Says, included_in}

-- there are at most 65 × 66 pairs
pub most_pairs : (j k : Studied) → pairs_of j k ≤ 4290
most_pairs j k =
    let a : j.count + 1 ≤ 65 = omega (arith, j.few) in
    let b : k.count + 2 ≤ 66 = omega (arith, k.few) in
    let c : pairs_of j k ≤ 65 * 66 = mul-le-mul a b in
    omega (arith, c)

-- the table of the reader of what is kept
abbrev pub table_of : Studied → Table NameRow
table_of k = table_from name_same (cells (names_of k) k.followers k.sets)

module _ (k : Studied) (m n : Model NameRow) (q : Tabled k n) where
  -- the reader takes just the words of the model
  just : (s : List NameRow) → Takes (table_of k) s ↔ Word name_same n s
  just s = (takes_word name_same name_laws k.sets k.followers _ n q.tables s, word_takes name_same name_laws k.sets k.followers _ n q.tables s)

  -- the pairs of the comparison are those that the lists have room for
  same_pairs : (j : Studied) → Tabled j m → pairs (table_of k) m ≡ pairs_of j k
  same_pairs j p =
      let n : length (names_of k) ≡ k.count = ap length q.tables.symbols ∙ sym q.count in
      let s : (table_of k).states + 1 ≡ k.count + 2 = omega (arith, n, q.count, q.tables.formed.few) in
      ap (λ i. (length m.symbols + 1) * i) s ∙ ap (λ i. (i + 1) * (k.count + 2)) (sym p.count)

  -- a comparison with room in its lists tells whether one model is included in the other
  told : (j : Studied) → Tabled j m → (work : ℕ) (word word' : List ℕ) (r : Result (Option ℕ) Fault) → 2 * pairs_of j k ≤ work → pairs_of j k ≤ length word
      → CompareSays name_same (table_of k) m work word r word' → Says m n (included_in r)
  told j p work word word' r a b (little_work h) = absurd (omega (arith, same_pairs j p, h))
  told j p work word word' r a b (little_word h i) = absurd (omega (arith, same_pairs j p, i))
  told j p work word word' r a b (included h i f) = taken_included name_same (table_of k) n just m f
  told j p work word word' r a b (missed {w = w} h i l) = (w, astray_missed name_same (table_of k) n just m w l)

-- the same, of the walk over sets of positions
module _ (j k : Studied) (m n : Model NameRow) (p : Tabled j m) (q : Tabled k n) (sets : List Namesakes) (long : length sets ≡ 64)
    (marks : MarksAll sets (names_of j) (names_of k)) where
  abbrev firsts : List NameRow
  firsts = names_of j

  abbrev names : List NameRow
  names = names_of k

  walked : product j.sets j.followers (take j.count sets) (match_table k.sets k.followers k.count) ≡ product j.sets j.followers firsts (table_of k)
  walked =
      let a : length firsts ≡ j.count = ap length p.tables.symbols ∙ sym p.count in
      let b : length names ≡ k.count = ap length q.tables.symbols ∙ sym q.count in
      let few : j.count ≤ 64 = omega (arith, p.count, p.tables.formed.few) in
      let even : length (take j.count sets) ≡ length firsts = omega (arith, length-take j.count sets, a, few, long) in
      ap (λ i. product j.sets j.followers (take j.count sets) (match_table k.sets k.followers i)) (sym b)
      ∙ same_walk j.sets j.followers (take j.count sets) firsts k.sets k.followers names even (omega (arith, b, q.count, q.tables.formed.few))
      (front_marks sets firsts names j.count (omega (arith, a)) marks)

  pub told_by_sets : (work word work' word' : List ℕ) (r : Result (Option ℕ) Fault) → 2 * pairs_of j k ≤ length work → pairs_of j k ≤ length word
      → Searched (product j.sets j.followers (take j.count sets) (match_table k.sets k.followers k.count)) work word work' word' r → Says m n (included_in r)
  told_by_sets work word work' word' r a b d =
      told k m n q j p (length work) word word' r a b
      (searched_says name_same name_laws (table_of k) (place_sound name_same names k.followers k.sets.first k.sets.last k.sets.nullable)
      (place_alike name_same names k.followers k.sets.first k.sets.last k.sets.nullable name_laws) j.sets j.followers firsts m p.tables work word work' word' r
      (subst (λ G. Searched G work word work' word' r) walked d))
