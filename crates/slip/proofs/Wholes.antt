-- From the steps of printing to all that is printed. Assumes nothing.
use Rattle.std.proofs.Common.{◌≡◌, ℕ, ◌+◌, ◌<◌, ◌≤◌, List, [], ◌∷◌, ◌++◌, length, get_or, take, drop, Bool, false, Err, Ok, Result, IfOk, IsErrAnd, MatchResult, codes, decimal, sym, refl, ap, ◌∙◌, subst, arith}
use Rattle.std.proofs.lemmas.Option.{slice_get-get_or}
use Rattle.std.proofs.lemmas.List.{append-nil, append_assoc, take_more, take_all, drop_more, drop_all, length-take, get_or-take}
use Rattle.faults.specs.declared.Fault.{Fault}
use Rattle.symbols.specs.NameRows.{row_bytes}
use Rattle.symbols.specs.declared.name_rows.NameRow.{NameRow}
use Rattle.language.specs.Meaning.{Model, given}
use Rattle.book.specs.Books.{IsBook}
use Rattle.book.specs.Entries.{bodies_in}
use Rattle.book.specs.Line.{line_of}
use Rattle.verdicts.specs.Texts.{Gives, Faulty}
use Rattle.slip.specs.Printed.{AllGive, none, more, FirstFaulty, Lines, one, next, Printed, no_book, no_model}
use Rattle.slip.specs.Desks.{Models, Reads, Told}
use Rattle.slip.specs.declared.desks.Desk.{Desk}
use Rattle.slip.specs.declared.refusals.Refusal.{Refusal}
use Rattle.slip.specs.declared.refusals.Refusal.TheVariants.{Book, Body}
use Rattle.slip.specs.Loads.{Loads, Refuses}
use Rattle.slip.specs.Refusals.{refusal_shown}
use Rattle.faults.specs.Shown.{numbered_shown, fault_shown}
use Rattle.shelf.specs.Calls.{Done}
use Rattle.slip.proofs.Once.{given_at}

-- there are as many models as bodies
pub given_length : (bs : List (List ℕ)) (ms : Models) → AllGive bs ms → length ms ≡ length bs
given_length [] [] none = refl
given_length [] (m ∷ ms) a = elim a [ ]
given_length (b ∷ bs) [] a = elim a [ ]
given_length (b ∷ bs) (m ∷ ms) (more g a) = let h = given_length bs ms a in omega arith

-- the models of the first k bodies
pub given_first : (bodies : List (List ℕ)) (k : ℕ) (ms : Models) → k ≤ length bodies → AllGive (take k bodies) ms → length ms ≡ k
given_first bodies k ms h a = let l = length-take k bodies in let g = given_length (take k bodies) ms a in omega arith

given_push : (bs : List (List ℕ)) (ms : Models) (b : List ℕ) (m : Model NameRow) → AllGive bs ms → Gives b m → AllGive (bs ++ b ∷ []) (ms ++ m ∷ [])
given_push [] [] b m none g = more g none
given_push [] (n ∷ ms) b m a g = elim a [ ]
given_push (c ∷ bs) [] b m a g = elim a [ ]
given_push (c ∷ bs) (n ∷ ms) b m (more h a) g = more h (given_push bs ms b m a g)

pub given_more : (bodies : List (List ℕ)) (k : ℕ) (ms : Models) (m : Model NameRow) → k < length bodies → AllGive (take k bodies) ms → Gives (get_or bodies k []) m → AllGive (take (k + 1) bodies) (ms ++ m ∷ [])
given_more bodies k ms m h a g = subst (λ (bs : List (List ℕ)). AllGive bs (ms ++ m ∷ [])) (sym (take_more bodies k [] h)) (given_push (take k bodies) ms (get_or bodies k []) m a g)

pub given_all : (bodies : List (List ℕ)) (k : ℕ) (ms : Models) → length bodies ≤ k → AllGive (take k bodies) ms → AllGive bodies ms
given_all bodies k ms h a = subst (λ (bs : List (List ℕ)). AllGive bs ms) (take_all k bodies h) a

pub first_faulty : (bodies : List (List ℕ)) (k : ℕ) (ms : Models) (f : Fault) → k < length bodies → AllGive (take k bodies) ms → Faulty (get_or bodies k []) f → FirstFaulty bodies k f
first_faulty bodies k ms f h a g = record {
  inside = h;
  before = λ j l.
      let n = length-take k bodies in
      let m = given_at (take k bodies) ms a j (omega arith) in
      (m.0, subst (λ (b : List ℕ). Gives b m.0) (get_or-take k bodies j [] l) m.1);
  here = g;
}

-- the text so far, with the lines of the models from place k on, is that of all models
pub lines_more : (ms : Models) (k : ℕ) (text after : List ℕ) → k + 1 < length ms → Told ms k (k + 1) text after
    → ((rest : List ℕ) → Lines k (drop k ms) rest → Lines 0 ms (text ++ rest))
    → (rest : List ℕ) → Lines (k + 1) (drop (k + 1) ms) rest → Lines 0 ms (after ++ rest)
lines_more ms k text after h t f rest l =
    let m = get_or ms k (given [] []) in
    let n = get_or ms (k + 1) (given [] []) in
    let j = t m n (slice_get-get_or ms k (given [] []) (omega arith)) (slice_get-get_or ms (k + 1) (given [] []) h) in
    let line = line_of row_bytes k (k + 1) j.0 j.1 in
    let d = drop_more ms (k + 1) (given [] []) h in
    let e : drop k ms ≡ m ∷ (n ∷ drop (k + 1 + 1) ms) = drop_more ms k (given [] []) (omega arith) ∙ ap (λ (ns : Models). m ∷ ns) d in
    let g : Lines k (m ∷ (n ∷ drop (k + 1 + 1) ms)) (line ++ rest) = next refl j.2 (subst (λ (ns : Models). Lines (k + 1) ns rest) d l) refl in
    let i = f (line ++ rest) (subst (λ (ns : Models). Lines k ns (line ++ rest)) (sym e) g) in
    let z : text ++ (line ++ rest) ≡ after ++ rest = sym (append_assoc text line rest) ∙ ap (λ (s : List ℕ). s ++ rest) (sym j.3) in
    subst (Lines 0 ms) z i

pub lines_end : (ms : Models) (k : ℕ) (text : List ℕ) → k + 1 ≡ length ms → ((rest : List ℕ) → Lines k (drop k ms) rest → Lines 0 ms (text ++ rest)) → Lines 0 ms text
lines_end ms k text h f =
    let m = get_or ms k (given [] []) in
    let e : drop k ms ≡ m ∷ [] = drop_more ms k (given [] []) (omega arith) ∙ ap (λ (ns : Models). m ∷ ns) (drop_all (k + 1) ms (omega arith)) in
    subst (Lines 0 ms) (append-nil text) (f [] (subst (λ (ns : Models). Lines k ns []) (sym e) one))

-- the body is the first that gives no model, where its fault was made a refusal
pub refused_body : (bodies : List (List ℕ)) (k : ℕ) (ms : Models) (d : Desk) (r : Done) (q : Result (Unit {0}) Refusal) (x : Refusal) (P : Fault → Refusal → Type 0) → k < length bodies → AllGive (take k bodies) ms
    → MatchResult r (λ u. q ≡ Ok u) (λ f. IsErrAnd q (P f)) → ((f : Fault) (e : Refusal) → P f e → e ≡ Body k f) → q ≡ Err x → Reads ms (get_or bodies k []) r d → Loads bodies (Err x) d
refused_body bodies k ms d (Ok u) q x P h a m t e g = absurd (cc)
refused_body bodies k ms d (Err f) (Ok u) x P h a m t e g = absurd m
refused_body bodies k ms d (Err f) (Err y) x P h a m t e g =
    let y-is = t f y m in
    let z : x ≡ Body k f = cc in
    subst (λ (w : Refusal). Loads bodies (Err w) d) (sym z) (first_faulty bodies k ms f h a g)

-- a book is refused for the body that was not loaded
pub refused_load : (bytes : List ℕ) (r : Refusal) (d : Desk) → IsBook bytes (bodies_in bytes) → Loads (bodies_in bytes) (Err r) d → Refuses bytes r
refused_load bytes (Book f) d w h = absurd h
refused_load bytes (Body k f) d w h = (w, h)

-- what is printed for a refusal
pub printed_refusal : (bytes out : List ℕ) (r : Refusal) → Refuses bytes r → out ≡ refusal_shown r ++ 10 ∷ [] → Printed bytes out false
printed_refusal bytes out (Book f) h e = no_book h (e ∙ append_assoc (codes "book: ") (numbered_shown f) (10 ∷ []))
printed_refusal bytes out (Body k f) h e =
    no_model h.0 h.1 (e ∙ append_assoc (codes "body ") (decimal k ++ (codes ": " ++ fault_shown f)) (10 ∷ [])
    ∙ ap (λ (w : List ℕ). codes "body " ++ w) (append_assoc (decimal k) (codes ": " ++ fault_shown f) (10 ∷ []) ∙ ap (λ (w : List ℕ). decimal k ++ w) (append_assoc (codes ": ") (fault_shown f) (10 ∷ []))))

-- a slip of the text of a refusal is what is printed
pub printed_refused : {A E : Type 0} (bytes : List ℕ) (r : Refusal) (text : A → List ℕ) (whole : A → Bool) (x : Result A E) → Refuses bytes r
    → IfOk x (λ s. (text s ≡ refusal_shown r ++ 10 ∷ []) × (whole s ≡ false)) → IfOk x (λ s. Printed bytes (text s) (whole s))
printed_refused bytes r text whole (Ok s) h e = subst (λ (b : Bool). Printed bytes (text s) b) (sym e.1) (printed_refusal bytes (text s) r h e.0)
printed_refused bytes r text whole (Err a) h e = e
