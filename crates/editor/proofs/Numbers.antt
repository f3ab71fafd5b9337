-- Two texts have one number. Assumes nothing.
use Rattle.std.proofs.Common.{ℕ, ◌+◌, List, sym, ap, ◌∙◌, subst}
use Rattle.faults.specs.Card.{number}
use Rattle.symbols.specs.NameRows.{name_same, name_laws}
use Rattle.symbols.specs.declared.name_rows.NameRow.{NameRow}
use Rattle.language.specs.Meaning.{Model}
use Rattle.verdicts.specs.Texts.{Gives}
use Rattle.verdicts.specs.Verdicts.{Included, LeastMissed}
use Rattle.verdicts.proofs.Formed.{texts_are_formed}
use Rattle.verdicts.proofs.Meanings.{one_meaning}
use Rattle.verdicts.proofs.Compared.{one_verdict}
use Rattle.editor.specs.Answers.{included, not_included, first_faulty, second_faulty, OneNumber}

-- the models of two texts are not both included and not
clash : (t u : List ℕ) (m n m' n' : Model NameRow) (w : List ℕ) → Gives t m → Gives u n → Gives t m' → Gives u n' → Included name_same m n → LeastMissed name_same m' n' w → ⊥
clash t u m n m' n' w g h g' h' i l =
    let p = one_meaning.model t m' m g' g in
    let q = one_meaning.model u n' n h' h in
    let k : LeastMissed name_same m n w = subst (λ x. LeastMissed name_same x n w) p (subst (λ x. LeastMissed name_same m' x w) q l) in
    (one_verdict name_same name_laws).either m n w (texts_are_formed t m g.text) i k

pub one_number : OneNumber
one_number t u r s (included g h i e) (included g' h' i' e') = e ∙ sym e'
one_number t u r s (included {m = m} {n = n} g h i e) (not_included {m = m'} {n = n'} {w = w} g' h' l e') = absurd (clash t u m n m' n' w g h g' h' i l)
one_number t u r s (included {m = m} g h i e) (first_faulty {f = f} d e') = absurd (one_meaning.either t m f g d)
one_number t u r s (included {n = n} g h i e) (second_faulty {f = f} g' d e') = absurd (one_meaning.either u n f h d)
one_number t u r s (not_included {m = m'} {n = n'} {w = w} g' h' l e) (included {m = m} {n = n} g h i e') = absurd (clash t u m n m' n' w g h g' h' i l)
one_number t u r s (not_included g h l e) (not_included g' h' l' e') = e ∙ sym e'
one_number t u r s (not_included {m = m} g h l e) (first_faulty {f = f} d e') = absurd (one_meaning.either t m f g d)
one_number t u r s (not_included {n = n} g h l e) (second_faulty {f = f} g' d e') = absurd (one_meaning.either u n f h d)
one_number t u r s (first_faulty {f = f} d e) (included {m = m} g h i e') = absurd (one_meaning.either t m f g d)
one_number t u r s (first_faulty {f = f} d e) (not_included {m = m} g h i e') = absurd (one_meaning.either t m f g d)
one_number t u r s (first_faulty {f = f} d e) (first_faulty {f = f'} d' e') = e ∙ ap (λ x. 100 + number x) (one_meaning.fault t f f' d d') ∙ sym e'
one_number t u r s (first_faulty {f = f} d e) (second_faulty {m = m} g d' e') = absurd (one_meaning.either t m f g d)
one_number t u r s (second_faulty {f = f} g' d e) (included {n = n} g h i e') = absurd (one_meaning.either u n f h d)
one_number t u r s (second_faulty {f = f} g' d e) (not_included {n = n} g h i e') = absurd (one_meaning.either u n f h d)
one_number t u r s (second_faulty {m = m} g d' e) (first_faulty {f = f} d e') = absurd (one_meaning.either t m f g d)
one_number t u r s (second_faulty {f = f} g d e) (second_faulty {f = f'} g' d' e') = e ∙ ap (λ x. 200 + number x) (one_meaning.fault u f f' d d') ∙ sym e'
