-- What the search of the product graph finds, in the words of the model.
use Rattle.std.proofs.Common.{◌≡◌, ℕ, ◌*◌, ◌<◌, ◌≤◌, Bool, List, ◌++◌, length, drop, Some, None, Option, Ok, Err, Result, sym, ap, ◌∙◌, subst}
use Rattle.symbols.specs.Kinds.{KindLaws}
use Rattle.faults.specs.declared.Layer.TheVariants.{Compare}
use Rattle.faults.specs.declared.Fault.{Fault}
use Rattle.faults.specs.declared.Fault.TheVariants.{ShortList}
use Rattle.language.specs.Meaning.{Model}
use Rattle.models.specs.declared.tables.Sets.{Sets}
use Rattle.models.specs.TablesOf.{TablesOf}
use Rattle.tables.specs.Tables.{Table, Sound, Alike}
use Rattle.walk.specs.declared.Shortage.{Shortage}
use Rattle.walk.specs.declared.Shortage.TheVariants.{Work, Word as WordCells}
use Rattle.walk.specs.Graph.{LabelledGraph}
use Rattle.walk.specs.Answer.{Answer}
use Rattle.product.specs.Pairs.{product}
use Rattle.product.specs.Compares.{verdict, Searched, Spent, LeastAstray, pairs, CompareSays, little_work, little_word, included, missed}
use Rattle.product.proofs.Astray.{wanted_astray, astray_wanted, all_taken, size_is}

module _ {S : Type 0} (same : S → S → Bool) {foreign : S → Bool} (laws : KindLaws same foreign) (t : Table S) (H : Sound t) (A : Alike same t) where
  module _ (s : Sets) (rows : List ℕ) (m : Model S) (T : TablesOf same s rows m.symbols m) (work word work' word' : List ℕ) where
    abbrev Says : Result (Option ℕ) Fault → List ℕ → Type 0
    Says r after = CompareSays same t m (length work) word r after

    size : (product s rows m.symbols t).nodes ≡ pairs t m
    size = size_is same laws s rows m T t H

    says_found : (found : Result (Option ℕ) Shortage) → Answer (product s rows m.symbols t) work word work' word' found → Says (verdict found) word'
    says_found (Err (Work j)) a =
        let q : j ≡ 2 * pairs t m = a.needed ∙ ap (λ i. 2 * i) size in
        subst (λ i. Says (Err (ShortList Compare i)) word') (sym q)
        (subst (Says (Err (ShortList Compare (2 * pairs t m)))) (sym a.same_word) (little_work (subst (λ i. length work < i) q a.short)))
    says_found (Err (WordCells j)) a =
        let q : j ≡ pairs t m = a.needed ∙ size in
        subst (λ i. Says (Err (ShortList Compare i)) word') (sym q)
        (subst (Says (Err (ShortList Compare (pairs t m)))) (sym a.same_word)
        (little_word (subst (λ i. 2 * i ≤ length work) size a.room_work) (subst (λ i. length word < i) q a.short)))
    says_found (Ok None) a =
        subst (Says (Ok None)) (sym a.same_word)
        (included (subst (λ i. 2 * i ≤ length work) size a.room_work) (subst (λ i. i ≤ length word) size a.room_word)
        (all_taken same laws s rows m T t H A a.none))
    says_found (Ok (Some j)) a =
        let w = a.found in
        let l = a.least in
        let b = wanted_astray same laws s rows m T t H w l.is_wanted in
        let least : LeastAstray t m w = record { marked = b.0; astray = b.1; least = λ v d f. l.least v (astray_wanted same laws s rows m T t H v d f) } in
        let r : Says (Ok (Some (length w))) (w ++ drop (length w) word) =
        missed (subst (λ i. 2 * i ≤ length work) size a.room_work) (subst (λ i. i ≤ length word) size a.room_word) least in
        subst (Says (Ok (Some j))) (sym a.written) (subst (λ i. Says (Ok (Some i)) (w ++ drop i word)) a.long r)

  pub searched_says : (s : Sets) (rows : List ℕ) (xs : List S) (m : Model S) → TablesOf same s rows xs m → (work word work' word' : List ℕ) (r : Result (Option ℕ) Fault)
      → Searched (product s rows xs t) work word work' word' r → CompareSays same t m (length work) word r word'
  searched_says s rows xs m T work word work' word' r d =
      let T' = subst (λ l. TablesOf same s rows l m) T.symbols T in
      let a = subst (λ l. Answer (product s rows l t) work word work' word' d.0) T.symbols d.2 in
      subst (λ c. CompareSays same t m (length work) word c word') (sym d.1) (says_found s rows m T' work word work' word' d.0 a)

spent_found : (G : LabelledGraph) (work word work' word' : List ℕ) (found : Result (Option ℕ) Shortage) → Answer G work word work' word' found → Spent (verdict found) work work'
spent_found G work word work' word' (Err (Work j)) a = a.same_work
spent_found G work word work' word' (Err (WordCells j)) a = a.same_work
spent_found G work word work' word' (Ok None) a = a.same_length
spent_found G work word work' word' (Ok (Some j)) a = a.same_length

pub searched_spent : (G : LabelledGraph) (work word work' word' : List ℕ) (r : Result (Option ℕ) Fault) → Searched G work word work' word' r → Spent r work work'
searched_spent G work word work' word' r d = subst (λ c. Spent c work work') (sym d.1) (spent_found G work word work' word' d.0 d.2)
