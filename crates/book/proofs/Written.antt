-- One write after another, and the entries and bodies of a book so written. Assumes nothing.
use Rattle.std.proofs.Common.{◌≡◌, ℕ, zero, suc, ◌+◌, ◌-◌, ◌*◌, ◌<◌, ◌≤◌, List, [], ◌∷◌, ◌++◌, length, get_or, take, drop, sym, refl, ap, ◌∙◌, subst, arith, Bor}
use Rattle.std.proofs.lemmas.List.{append_assoc, append-nil, length-append, drop-drop, take_all, take_more, get_or-map, length-map}
use Rattle.book.specs.Books.{two_bytes, together, entries_from, book_of, IsBook}
use Rattle.book.specs.declared.pens.Pen.{Pen}
use Rattle.book.specs.Puts.{Put}
use Rattle.book.specs.Pens.{Writes}
use Rattle.book.specs.Makings.{contents, Enough, Made}
use Rattle.book.proofs.Laid.{entries_push, together_push, book_bodies}

pub put_none : (xs : List ℕ) (at : ℕ) → at ≤ length xs → Put xs xs at [] at
put_none xs at h = record { ends = omega arith; fits = h; kept = refl; front = sym (append-nil (take at xs)); rest = refl }

pub put_put : (a b c : List ℕ) (at n m : ℕ) (u v : List ℕ) → Put a b at u n → Put b c n v m → Put a c at (u ++ v) m
put_put a b c at n m u v p q = record {
  ends = let l = length-append u v in omega (arith, p.ends, q.ends);
  fits = omega (arith, q.fits, p.kept);
  kept = q.kept ∙ p.kept;
  front = q.front ∙ ap (λ (w : List ℕ). w ++ v) p.front ∙ append_assoc (take at a) u v;
  rest = q.rest ∙ later b ∙ ap (drop (m - n)) p.rest ∙ sym (later a);
}
  where
    later : (xs : List ℕ) → drop m xs ≡ drop (m - n) (drop n xs)
    later xs = let e : m ≡ n + (m - n) = omega (arith, q.ends) in ap (λ (k : ℕ). drop k xs) e ∙ sym (drop-drop (m - n) n xs)

pub writes_none : (pen : Pen) → pen.at ≤ length pen.out.now → Writes pen pen []
writes_none pen h = record { same = refl; put = put_none pen.out.now pen.at h }

pub writes_writes : (a b c : Pen) (u v : List ℕ) → Writes a b u → Writes b c v → Writes a c (u ++ v)
writes_writes a b c u v p q = record {
  same = q.same ∙ p.same;
  put = put_put a.out.now b.out.now c.out.now a.at b.at c.at u v p.put q.put;
}

pub writes_same : (a b : Pen) (u v : List ℕ) → u ≡ v → Writes a b u → Writes a b v
writes_same a b u v e p = subst (λ (w : List ℕ). Writes a b w) e p

-- what a slice is where none stands
abbrev pub blank : Bor (List ℕ)
blank = record { ref_ptr = (0, 0); now = [] }

pub length-contents : (slices : List (Bor (List ℕ))) → length (contents slices) ≡ length slices
length-contents slices = length-map slices (λ (s : Bor (List ℕ)). s.now)

-- the contents of one slice more
module _ (slices : List (Bor (List ℕ))) (i : ℕ) (h : i < length slices) where
  abbrev pub content : List ℕ
  content = (get_or slices i blank).now

  pub contents_more : take (i + 1) (contents slices) ≡ take i (contents slices) ++ content ∷ []
  contents_more =
      let l : i < length (contents slices) = omega (arith, length-contents slices) in
      take_more (contents slices) i [] l
      ∙ ap (λ (w : List ℕ). take i (contents slices) ++ w ∷ []) (get_or-map (λ (s : Bor (List ℕ)). s.now) slices i blank [] h)

  pub together_more : together (take (i + 1) (contents slices)) ≡ together (take i (contents slices)) ++ content
  together_more = ap together contents_more ∙ together_push (take i (contents slices)) content

  pub length_together_more : length (together (take (i + 1) (contents slices))) ≡ length (together (take i (contents slices))) + length content
  length_together_more = ap length together_more ∙ length-append (together (take i (contents slices))) content

  pub entries_more : (from : ℕ) → entries_from from (take (i + 1) (contents slices)) ≡ entries_from from (take i (contents slices)) ++ (two_bytes (from + length (together (take i (contents slices)))) ++ two_bytes (length content))
  entries_more from = ap (entries_from from) contents_more ∙ entries_push from (take i (contents slices)) content

pub contents_all : (slices : List (Bor (List ℕ))) (i : ℕ) → length slices ≤ i → take i (contents slices) ≡ contents slices
contents_all slices i h = take_all i (contents slices) (omega (arith, length-contents slices))

pub together_most : (bodies : List (List ℕ)) (n : ℕ) → length (together (take n bodies)) ≤ length (together bodies)
together_most [] zero = omega arith
together_most [] (suc n) = omega arith
together_most (b ∷ more) zero = omega arith
together_most (b ∷ more) (suc n) = let h = together_most more n in simp length-append (omega arith)

pub made_by : (bodies : List (List ℕ)) (before after : List ℕ) (n : ℕ) → Enough bodies → length (book_of bodies) ≤ 16384 → Put before after 0 (book_of bodies) n → Made bodies before after n
made_by bodies before after n enough short p =
    let book : IsBook (take n after) bodies = record { some = enough.0; most = enough.1; short = omega (arith, ap length p.front); made = p.front } in
    record { fits = p.fits; book = book; back = sym (book_bodies (take n after) bodies book); rest = p.rest; size = omega (arith, p.ends) }

-- the count byte, the entries and the bodies, one after the other
pub writes_book : (bodies : List (List ℕ)) (count : ℕ) (a b c d : Pen) → length bodies ≡ count → Writes a b (count ∷ []) → Writes b c (entries_from (1 + 4 * count) bodies) → Writes c d (together bodies) → Writes a d (book_of bodies)
writes_book bodies count a b c d e p q r =
    writes_same a d _ (book_of bodies)
    (ap (λ (k : ℕ). k ∷ (entries_from (1 + 4 * k) bodies ++ together bodies)) (sym e))
    (writes_writes a c d (count ∷ entries_from (1 + 4 * count) bodies) (together bodies) (writes_writes a b c (count ∷ []) (entries_from (1 + 4 * count) bodies) p q) r)
