-- The theorems of reading: a refusal means that the bytes are no book; one fault; the only bodies. Assumes nothing.
use Rattle.std.proofs.Common.{◌≡◌, ℕ, List, sym, ap, ◌∙◌, inl, inr, arith}
use Rattle.std.proofs.lemmas.Bool.{cases_order}
use Rattle.faults.specs.declared.Fault.TheVariants.{WrongBook}
use Rattle.book.specs.Books.{IsBook}
use Rattle.book.specs.Entries.{Right, Wrong, FirstWrong, NoBook, RefusalsStand, OneFault, BodiesStand}
use Rattle.book.proofs.Laid.{book_count, book_right, book_ends, book_bodies}

right_wrong : (bytes : List ℕ) (k : ℕ) → Right bytes k → Wrong bytes k → ⊥
right_wrong bytes k r (inl l) = omega (arith, r.there)
right_wrong bytes k r (inr (inl n)) = n r.placed
right_wrong bytes k r (inr (inr l)) = omega (arith, r.within)

no_book : (bytes : List ℕ) (entry : ℕ) (bodies : List (List ℕ)) → NoBook bytes entry → IsBook bytes bodies → ⊥
no_book bytes entry bodies (inl n) b = let c = book_count bytes bodies b in n.0 (omega (arith, b.some), omega (arith, b.most))
no_book bytes entry bodies (inr (inl n)) b = right_wrong bytes entry (book_right bytes bodies b entry n.1.inside) n.1.here
no_book bytes entry bodies (inr (inr n)) b = omega (arith, n.1.over, book_ends bytes bodies b)

pub refusals_stand : RefusalsStand
refusals_stand bytes f bodies (inl r) b = omega (arith, r.0, b.short)
refusals_stand bytes f bodies (inr r) b = no_book bytes r.1.0 bodies r.1.2 b

first_first : (bytes : List ℕ) (j k : ℕ) → FirstWrong bytes j → FirstWrong bytes k → j ≡ k
first_first bytes j k p q = elim (cases_order j k) [
  | inl e ↦ e
  | inr (inl l) ↦ absurd (right_wrong bytes j (q.before j l) p.here)
  | inr (inr l) ↦ absurd (right_wrong bytes k (p.before k l) q.here)
]

one_entry : (bytes : List ℕ) (j k : ℕ) → NoBook bytes j → NoBook bytes k → j ≡ k
one_entry bytes j k (inl p) (inl q) = p.1 ∙ sym q.1
one_entry bytes j k (inl p) (inr (inl q)) = absurd (p.0 q.0)
one_entry bytes j k (inl p) (inr (inr q)) = absurd (p.0 q.0)
one_entry bytes j k (inr (inl p)) (inl q) = absurd (q.0 p.0)
one_entry bytes j k (inr (inl p)) (inr (inl q)) = first_first bytes j k p.1 q.1
one_entry bytes j k (inr (inl p)) (inr (inr q)) = absurd (right_wrong bytes j (q.1.all j p.1.inside) p.1.here)
one_entry bytes j k (inr (inr p)) (inl q) = absurd (q.0 p.0)
one_entry bytes j k (inr (inr p)) (inr (inl q)) = absurd (right_wrong bytes k (p.1.all k q.1.inside) q.1.here)
one_entry bytes j k (inr (inr p)) (inr (inr q)) = p.2 ∙ sym q.2

pub one_fault : OneFault
one_fault bytes f g (inl p) (inl q) = p.1 ∙ sym q.1
one_fault bytes f g (inl p) (inr q) = absurd (omega (arith, p.0, q.0))
one_fault bytes f g (inr p) (inl q) = absurd (omega (arith, p.0, q.0))
one_fault bytes f g (inr p) (inr q) = p.1.1 ∙ ap WrongBook (one_entry bytes p.1.0 q.1.0 p.1.2 q.1.2) ∙ sym q.1.1

pub bodies_stand : BodiesStand
bodies_stand bytes bodies b = book_bodies bytes bodies b
