-- The same is printed for the same bytes. Assumes nothing.
use Rattle.std.proofs.Common.{◌≡◌, ℕ, zero, suc, ◌<◌, List, [], ◌∷◌, ◌++◌, length, get_or, sym, refl, ap, ◌∙◌, subst, inl, inr, arith, Option, Some}
use Rattle.std.proofs.lemmas.Bool.{cases_order}
use Rattle.faults.specs.declared.Fault.{Fault}
use Rattle.symbols.specs.NameRows.{row_bytes, name_same, name_laws}
use Rattle.symbols.specs.declared.name_rows.NameRow.{NameRow}
use Rattle.language.specs.Meaning.{Model, Formed, spelled}
use Rattle.book.specs.Books.{IsBook}
use Rattle.book.specs.Line.{line_of}
use Rattle.book.proofs.Theorems.{refusals_stand, one_fault, bodies_stand}
use Rattle.verdicts.specs.Texts.{Gives, Faulty}
use Rattle.verdicts.proofs.Formed.{texts_are_formed}
use Rattle.verdicts.proofs.Meanings.{one_meaning}
use Rattle.verdicts.proofs.Compared.{one_verdict}
use Rattle.slip.specs.Printed.{AllGive, none, more, FirstFaulty, Judged, included, not_included, Lines, one, next, line_of_book, line_of_body, no_book, no_model, compared}
use Rattle.slip.specs.Theorems.{OneSlip}

-- each body gives a model
pub given_at : (bodies : List (List ℕ)) (ms : List (Model NameRow)) → AllGive bodies ms → (j : ℕ) → j < length bodies → (m : Model NameRow) × Gives (get_or bodies j []) m
given_at [] ms a j h = absurd (omega arith)
given_at (b ∷ bs) [] a j h = elim a [ ]
given_at (b ∷ bs) (m ∷ ms) (more g a) zero h = (m, g)
given_at (b ∷ bs) (m ∷ ms) (more g a) (suc j) h = given_at bs ms a j (omega arith)

-- the bodies of a book are the only ones
one_book : (bytes : List ℕ) (bs cs : List (List ℕ)) → IsBook bytes bs → IsBook bytes cs → bs ≡ cs
one_book bytes bs cs b c = bodies_stand bytes bs b ∙ sym (bodies_stand bytes cs c)

-- bodies give one list of models
one_list : (bs : List (List ℕ)) (ms ns : List (Model NameRow)) → AllGive bs ms → AllGive bs ns → ms ≡ ns
one_list [] [] [] none none = refl
one_list [] [] (n ∷ ns) a c = elim c [ ]
one_list [] (m ∷ ms) ns a c = elim a [ ]
one_list (b ∷ bs) [] ns a c = elim a [ ]
one_list (b ∷ bs) (m ∷ ms) [] a c = elim c [ ]
one_list (b ∷ bs) (m ∷ ms) (n ∷ ns) (more g a) (more h c) =
    let e = one_meaning.model b m n g h in
    let r = one_list bs ms ns a c in
    cc

-- one body is the first faulty one, for one fault
one_faulty : (bs : List (List ℕ)) (j k : ℕ) (f g : Fault) → FirstFaulty bs j f → FirstFaulty bs k g → (j ≡ k) × (f ≡ g)
one_faulty bs j k f g p q = elim (cases_order j k) [
  | inl e ↦ (e, one_meaning.fault (get_or bs k []) f g (subst (λ (i : ℕ). Faulty (get_or bs i []) f) e p.here) q.here)
  | inr (inl l) ↦ let m = q.before j l in absurd (one_meaning.either (get_or bs j []) m.0 f m.1 p.here)
  | inr (inr l) ↦ let m = p.before k l in absurd (one_meaning.either (get_or bs k []) m.0 g m.1 q.here)
]

not_faulty : (bs : List (List ℕ)) (ms : List (Model NameRow)) (k : ℕ) (f : Fault) → AllGive bs ms → FirstFaulty bs k f → ⊥
not_faulty bs ms k f a p = let m = given_at bs ms a k p.inside in one_meaning.either (get_or bs k []) m.0 f m.1 p.here

one_judged : (m n : Model NameRow) (v u : Option ℕ) (s t : List NameRow) → Formed m → Judged m n v s → Judged m n u t → (v ≡ u) × (s ≡ t)
one_judged m n v u s t F (included i) (included j) = (refl, refl)
one_judged m n v u s t F (included i) (not_included {w = w} l e d) = absurd ((one_verdict name_same name_laws).either m n w F i l)
one_judged m n v u s t F (not_included {w = w} l e d) (included i) = absurd ((one_verdict name_same name_laws).either m n w F i l)
one_judged m n v u s t F (not_included {l = k} {w = w} l e d) (not_included {l = k'} {w = w'} l' e' d') =
    let z = (one_verdict name_same name_laws).word m n w w' l l' in
    (ap Some (e ∙ ap length z ∙ sym e'), d ∙ ap (spelled m.symbols) z ∙ sym d')

one_lines : (p : ℕ) (bs : List (List ℕ)) (ms : List (Model NameRow)) (a b : List ℕ) → AllGive bs ms → Lines p ms a → Lines p ms b → a ≡ b
one_lines p bs ms a b A one one = refl
one_lines p bs ms a b (more {b = t} {bs = ts} {m = m} g A) (next {q = q} {n = n} {ms = ns} {v = v} {s = s} {rest = x} e j l d) (next {q = q'} {v = v'} {s = s'} {rest = x'} e' j' l' d') =
    let z = one_judged m n v v' s s' (texts_are_formed t m g.text) j j' in
    let h = one_lines q ts (n ∷ ns) x x' A l (subst (λ (i : ℕ). Lines i (n ∷ ns) x') (e' ∙ sym e) l') in
    let k : q ≡ q' = e ∙ sym e' in
    let i = z.0 in
    let o = z.1 in
    let y : line_of row_bytes p q v s ++ x ≡ line_of row_bytes p q' v' s' ++ x' =
    ap (λ (n : ℕ). line_of row_bytes p n v s ++ x) k ∙ ap (λ (u : Option ℕ). line_of row_bytes p q' u s ++ x) i ∙ ap (λ (r : List NameRow). line_of row_bytes p q' v' r ++ x) o ∙ ap (λ (r : List ℕ). line_of row_bytes p q' v' s' ++ r) h in
    d ∙ y ∙ sym d'

pub once : OneSlip
once bytes out out' whole whole' (no_book {f = f} r e) (no_book {f = g} r' e') = (e ∙ ap line_of_book (one_fault bytes f g r r') ∙ sym e', refl)
once bytes out out' whole whole' (no_book {f = f} r e) (no_model {bodies = bs} b F d) = absurd (refusals_stand bytes f bs r b)
once bytes out out' whole whole' (no_book {f = f} r e) (compared {bodies = bs} b A l) = absurd (refusals_stand bytes f bs r b)
once bytes out out' whole whole' (no_model {bodies = bs} b F d) (no_book {f = f} r e) = absurd (refusals_stand bytes f bs r b)
once bytes out out' whole whole' (no_model {bodies = bs} {k = k} {f = f} b F d) (no_model {bodies = bs'} {k = k'} {f = f'} b' F' d') =
    let z = one_faulty bs k k' f f' F (subst (λ cs. FirstFaulty cs k' f') (one_book bytes bs' bs b' b) F') in
    let i = z.0 in
    let j = z.1 in
    let h : line_of_body k f ≡ line_of_body k' f' = ap (λ (n : ℕ). line_of_body n f) i ∙ ap (line_of_body k') j in
    (d ∙ h ∙ sym d', refl)
once bytes out out' whole whole' (no_model {bodies = bs} {k = k} {f = f} b F d) (compared {bodies = bs'} {ms = ms} b' A l) =
    absurd (not_faulty bs' ms k f A (subst (λ cs. FirstFaulty cs k f) (one_book bytes bs bs' b b') F))
once bytes out out' whole whole' (compared {bodies = bs} b A l) (no_book {f = f} r e) = absurd (refusals_stand bytes f bs r b)
once bytes out out' whole whole' (compared {bodies = bs'} {ms = ms} b' A l) (no_model {bodies = bs} {k = k} {f = f} b F d) =
    absurd (not_faulty bs' ms k f A (subst (λ cs. FirstFaulty cs k f) (one_book bytes bs bs' b b') F))
once bytes out out' whole whole' (compared {bodies = bs} {ms = ms} b A l) (compared {bodies = bs'} {ms = ms'} b' A' l') =
    let z = one_list bs ms' ms (subst (λ cs. AllGive cs ms') (one_book bytes bs' bs b' b) A') A in
    (one_lines 0 bs ms out out' A l (subst (λ ns. Lines 0 ns out') z l'), refl)
