-- A text has one meaning. Assumes nothing.
use Rattle.std.proofs.Common.{◌≡◌, ℕ, ◌≤◌, List, [], map, length, replicate, Err, sym, refl, ap, ◌∙◌, subst, arith}
use Rattle.std.proofs.lemmas.List.{length-replicate}
use Rattle.std.proofs.lemmas.Bool.{false≢true}
use Rattle.faults.specs.declared.Fault.{Fault}
use Rattle.faults.specs.declared.Fault.TheVariants.{Ambiguous}
use Rattle.symbols.specs.NameRows.{name_row, name_same}
use Rattle.symbols.specs.declared.name_rows.NameRow.{NameRow}
use Rattle.language.specs.Meaning.{Model, given, LeastCompeting}
use Rattle.grammar.proofs.Unique.{one_reading}
use Rattle.text_reader.specs.Answer.{Refused, Readable, few_codes, few_names, long_text, at_strange_byte, at_unexpected, at_long_name, at_too_deep, at_too_many}
use Rattle.text_reader.proofs.Final.{exact, one_answer}
use Rattle.models.specs.Told as told
use Rattle.models.proofs.Answered as models
use Rattle.verdicts.specs.Texts.{TextOf, Gives, Unread, Faulty, unread, ambiguous}
use Rattle.verdicts.specs.Theorems.{OneMeaning}
use Rattle.verdicts.proofs.Formed.{texts_are_formed}

-- what a text is refused for does not depend on the lists that are lent, if they are long enough
pub refused_unread : (t cs : List ℕ) (rs : List NameRow) (f : Fault) → 1280 ≤ length cs → 64 ≤ length rs → Refused t cs rs f → Unread t f
refused_unread t cs rs f h k (few_codes l) ds qs i j = absurd (omega arith)
refused_unread t cs rs f h k (few_names g l) ds qs i j = absurd (omega arith)
refused_unread t cs rs f h k (long_text g n l) ds qs i j = long_text i j l
refused_unread t cs rs f h k (at_strange_byte d r) ds qs i j = at_strange_byte (record { codes = i; names = j; short = d.short }) r
refused_unread t cs rs f h k (at_unexpected d r) ds qs i j = at_unexpected (record { codes = i; names = j; short = d.short }) r
refused_unread t cs rs f h k (at_long_name d r) ds qs i j = at_long_name (record { codes = i; names = j; short = d.short }) r
refused_unread t cs rs f h k (at_too_deep d r) ds qs i j = at_too_deep (record { codes = i; names = j; short = d.short }) r
refused_unread t cs rs f h k (at_too_many d r) ds qs i j = at_too_many (record { codes = i; names = j; short = d.short }) r

-- lists that are long enough
abbrev some_codes : List ℕ
some_codes = replicate 1280 0

abbrev some_rows : List NameRow
some_rows = replicate 64 (name_row [])

enough_codes : 1280 ≤ length some_codes
enough_codes = omega (arith, length-replicate {A = ℕ} 1280 0)

enough_rows : 64 ≤ length some_rows
enough_rows = omega (arith, length-replicate {A = NameRow} 64 (name_row []))

unread_refused : (t : List ℕ) (f : Fault) → Unread t f → Refused t some_codes some_rows f
unread_refused t f u = u some_codes some_rows enough_codes enough_rows

one_unread : (t : List ℕ) (f g : Fault) → Unread t f → Unread t g → f ≡ g
one_unread t f g u v =
    let e = (one_answer t some_codes some_rows (Err g) (Err f) some_codes some_codes some_rows some_rows (unread_refused t g v, refl, refl) (unread_refused t f u, refl, refl)).0 in
    cc

-- a text that is not read is the text of no model
read_not : (t : List ℕ) (m : Model NameRow) (f : Fault) → TextOf t m → Unread t f → ⊥
read_not t m f d u =
    let r : Readable t some_codes some_rows = (record { codes = enough_codes; names = enough_rows; short = d.short }, (d.codes, d.names, d.within)) in
    false≢true ((exact t some_codes some_rows (Err f) some_codes some_rows (unread_refused t f u, refl, refl)).1 r)

one_model : (t : List ℕ) (m n : Model NameRow) → TextOf t m → TextOf t n → m ≡ n
one_model t m n d e =
    let z = one_reading t 32 16 32 16 e.codes d.codes e.names d.names e.within.model d.within.model in
    d.model ∙ ap (λ (w : List ℕ). given w (map name_row d.names)) z.0 ∙ ap (λ (ns : List (List ℕ)). given e.codes (map name_row ns)) z.1 ∙ sym e.model

-- competing positions have one fault
one_competing : (m : Model NameRow) (x y u v : ℕ) → told.Flawed name_same m (Ambiguous x y) → told.Flawed name_same m (Ambiguous u v) → Ambiguous x y ≡ Ambiguous u v
one_competing m x y u v p q =
    let e = ((models.one_answer name_same).study m [] (Err (Ambiguous x y)) (Err (Ambiguous u v)) [] [] (p, refl) (q, refl)).0 in cc

one_fault : (t : List ℕ) (f g : Fault) → Faulty t f → Faulty t g → f ≡ g
one_fault t f g (unread u) (unread v) = one_unread t f g u v
one_fault t f g (unread u) (ambiguous {m = m} d l) = absurd (read_not t m f d u)
one_fault t f g (ambiguous {m = m} d l) (unread v) = absurd (read_not t m g d v)
one_fault t f g (ambiguous {m = m} {x = x} {y = y} d l) (ambiguous {m = n} {x = u} {y = v} e k) =
    let F = texts_are_formed t m d in
    one_competing m x y u v (told.ambiguous F l) (told.ambiguous F (subst (λ o. LeastCompeting name_same o u v) (one_model t n m e d) k))

not_both : (t : List ℕ) (m : Model NameRow) (f : Fault) → Gives t m → Faulty t f → ⊥
not_both t m f g (unread u) = read_not t m f g.text u
not_both t m f g (ambiguous {m = n} {x = x} {y = y} d l) =
    subst (λ o. LeastCompeting name_same o x y → ⊥) (one_model t m n g.text d) (λ k. g.clear x y k.compete) l

pub one_meaning : OneMeaning
one_meaning = record {
  model = λ t m n g h. one_model t m n g.text h.text;
  fault = one_fault;
  either = not_both;
}
