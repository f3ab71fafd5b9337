-- The layout of a book, read from its bytes and read from its bodies. Assumes nothing.
use Rattle.std.proofs.Common.{◌≡◌, ℕ, zero, suc, ◌+◌, ◌-◌, ◌*◌, ◌<◌, ◌≤◌, List, [], ◌∷◌, ◌++◌, map, length, get_or, take, drop, Option, None, Some, MatchOption, Bor, sym, refl, ap, ◌∙◌, subst, inl, inr, add-one, arith}
use native.Mathlib.Nat.{mod-add-div}
use Rattle.std.specs.List.{range_with_len}
use Rattle.std.specs.Slice.{IsGetRangeResult}
use Rattle.std.proofs.lemmas.List.{append_assoc, append-nil, length-append, length-drop, drop-drop, get_or-drop, take_at, drop_at}
use Rattle.std.proofs.lemmas.Bool.{cases_lt}
use Rattle.std.proofs.lemmas.List.FromFn.{get_or-map-range_with_len}
use Rattle.book.specs.Books.{two_bytes, together, entries_from, book_of, IsBook}
use Rattle.book.specs.Entries.{count_in, entry_byte, offset_in, length_in, start_in, body_in, bodies_in, Holds, Right}

pub length-entries : (from : ℕ) (bodies : List (List ℕ)) → length (entries_from from bodies) ≡ 4 * length bodies
length-entries from [] = refl
length-entries from (b ∷ more) = let h = length-entries (from + length b) more in omega arith

pub length-book : (bodies : List (List ℕ)) → length (book_of bodies) ≡ 1 + 4 * length bodies + length (together bodies)
length-book bodies =
    let e = length-entries (1 + 4 * length bodies) bodies in
    let a = length-append (entries_from (1 + 4 * length bodies) bodies) (together bodies) in
    omega arith

-- the entries of one body more
pub entries_push : (from : ℕ) (bodies : List (List ℕ)) (b : List ℕ) → entries_from from (bodies ++ b ∷ []) ≡ entries_from from bodies ++ (two_bytes (from + length (together bodies)) ++ two_bytes (length b))
entries_push from [] b = ap (λ (n : ℕ). two_bytes n ++ two_bytes (length b)) (let e : from ≡ from + 0 = omega arith in e)
entries_push from (a ∷ more) b =
    let h = entries_push (from + length a) more b in
    let l = length-append a (together more) in
    let e : from + length a + length (together more) ≡ from + length (a ++ together more) = omega arith in
    ap (λ (w : List ℕ). two_bytes from ++ (two_bytes (length a) ++ w)) (h ∙ ap (λ (n : ℕ). entries_from (from + length a) more ++ (two_bytes n ++ two_bytes (length b))) e)

pub together_push : (bodies : List (List ℕ)) (b : List ℕ) → together (bodies ++ b ∷ []) ≡ together bodies ++ b
together_push [] b = append-nil b
together_push (a ∷ more) b = ap (λ (w : List ℕ). a ++ w) (together_push more b) ∙ sym (append_assoc a (together more) b)

pub take_add : (a b : ℕ) (xs : List ℕ) → take (a + b) xs ≡ take a xs ++ take b (drop a xs)
take_add zero b xs = ap (λ (n : ℕ). take n xs) (let e : 0 + b ≡ b = omega arith in e)
take_add (suc a) b [] = ap (λ (n : ℕ). take n []) (let e : suc a + b ≡ suc (a + b) = omega arith in e) ∙ sym (none b)
  where
    none : (n : ℕ) → take {A = ℕ} n [] ≡ []
    none zero = refl
    none (suc n) = refl
take_add (suc a) b (x ∷ xs) = ap (λ (n : ℕ). take n (x ∷ xs)) (let e : suc a + b ≡ suc (a + b) = omega arith in e) ∙ ap (λ (w : List ℕ). x ∷ w) (take_add a b xs)

-- what entry k says, where its four bytes stand
pub record Says (bytes : List ℕ) (k offset size : ℕ) : Type 0 where
  pub there : 1 + 4 * k + 4 ≤ length bytes
  pub places : offset_in bytes k ≡ offset
  pub sizes : length_in bytes k ≡ size

pub entry_says : (bytes : List ℕ) (k offset size : ℕ) (rest : List ℕ) → drop (1 + 4 * k) bytes ≡ two_bytes offset ++ (two_bytes size ++ rest) → Says bytes k offset size
entry_says bytes k offset size rest e =
    let l = length-drop (1 + 4 * k) bytes in
    let m = ap length e in
    let b0 = the_byte 0 in
    let b1 = the_byte 1 in
    let b2 = the_byte 2 in
    let b3 = the_byte 3 in
    record { there = omega arith; places = omega (arith, mod-add-div offset 256); sizes = omega (arith, mod-add-div size 256) }
  where
    the_byte : (i : ℕ) → entry_byte bytes k i ≡ get_or (two_bytes offset ++ (two_bytes size ++ rest)) i 0
    the_byte i = sym (get_or-drop (1 + 4 * k) bytes i 0) ∙ ap (λ (w : List ℕ). get_or w i 0) e

-- body k as it is given of the bytes: the part that entry k says, and none only where entry k does not hold
abbrev pub Gives : List ℕ → ℕ → Option (Bor (List ℕ)) → Type 0
Gives bytes k given = MatchOption given (Holds bytes k → ⊥) (λ p. Holds bytes k × (p.now ≡ body_in bytes k))

-- what is left of the bytes from entry k on, and from body k on
record Rest (bytes all : List ℕ) (k : ℕ) (more : List (List ℕ)) : Type 0 where
  entries : drop (1 + 4 * k) bytes ≡ entries_from (start_in bytes k) more ++ all
  bodies : drop (start_in bytes k) bytes ≡ together more
  ends : start_in bytes k + length (together more) ≡ length bytes

module _ (bytes all : List ℕ) where
  module _ (k : ℕ) (b : List ℕ) (more : List (List ℕ)) (h : Rest bytes all k (b ∷ more)) where
    says : Says bytes k (start_in bytes k) (length b)
    says = entry_says bytes k (start_in bytes k) (length b) (entries_from (start_in bytes k + length b) more ++ all) h.entries

    the_offset : offset_in bytes k ≡ start_in bytes k
    the_offset = says.places

    the_length : length_in bytes k ≡ length b
    the_length = says.sizes

    the_right : Right bytes k
    the_right =
        let n = length-append b (together more) in
        record { there = says.there; placed = the_offset; within = omega (arith, the_length, h.ends) }

    the_body : body_in bytes k ≡ b
    the_body =
        ap (λ (n : ℕ). take n (drop (offset_in bytes k) bytes)) the_length
        ∙ ap (λ (n : ℕ). take (length b) (drop n bytes)) the_offset
        ∙ ap (take (length b)) h.bodies
        ∙ take_at b (together more) (length b) refl

    on_rest : Rest bytes all (suc k) more
    on_rest =
        let e : 1 + 4 * suc k ≡ 1 + 4 * k + 4 = omega arith in
        let n = length-append b (together more) in
        record {
          entries =
              ap (λ (n : ℕ). drop n bytes) e
              ∙ sym (drop-drop 4 (1 + 4 * k) bytes)
              ∙ ap (drop 4) h.entries
              ∙ ap (λ (n : ℕ). entries_from (start_in bytes k + n) more ++ all) (sym the_length);
          bodies =
              ap (λ (n : ℕ). drop (start_in bytes k + n) bytes) the_length
              ∙ sym (drop-drop (length b) (start_in bytes k) bytes)
              ∙ ap (drop (length b)) h.bodies
              ∙ drop_at b (together more) (length b) refl;
          ends = omega (arith, the_length, h.ends);
        }

  rest_right : (k : ℕ) (more : List (List ℕ)) → Rest bytes all k more → (j : ℕ) → k ≤ j → j < k + length more → Right bytes j
  rest_right k [] h j low high = absurd (omega arith)
  rest_right k (b ∷ more) h j low high = elim (cases_lt k j) [
    | inl l ↦ rest_right (suc k) more (on_rest k b more h) j (omega arith) (omega arith)
    | inr l ↦ subst (Right bytes) (let e : k ≡ j = omega arith in e) (the_right k b more h)
  ]

  rest_ends : (k : ℕ) (more : List (List ℕ)) → Rest bytes all k more → start_in bytes (k + length more) ≡ length bytes
  rest_ends k [] h = let e : k + 0 ≡ k = omega arith in ap (start_in bytes) e ∙ (let f : start_in bytes k ≡ length bytes = omega (arith, h.ends) in f)
  rest_ends k (b ∷ more) h = let e : k + suc (length more) ≡ suc k + length more = omega arith in ap (start_in bytes) e ∙ rest_ends (suc k) more (on_rest k b more h)

  rest_bodies : (k : ℕ) (more : List (List ℕ)) → Rest bytes all k more → more ≡ map (body_in bytes) (range_with_len k (length more))
  rest_bodies k [] h = refl
  rest_bodies k (b ∷ more) h =
      ap (λ (w : List (List ℕ)). b ∷ w) (rest_bodies (suc k) more (on_rest k b more h))
      ∙ ap (λ (x : List ℕ). x ∷ map (body_in bytes) (range_with_len (suc k) (length more))) (sym (the_body k b more h))
      ∙ ap (λ (n : ℕ). body_in bytes k ∷ map (body_in bytes) (range_with_len n (length more))) (sym (add-one k))

rest_all : (bodies : List (List ℕ)) → Rest (book_of bodies) (together bodies) 0 bodies
rest_all bodies =
    let e = length-entries (1 + 4 * length bodies) bodies in
    let l = length-book bodies in
    record {
      entries = refl;
      bodies = drop_at (length bodies ∷ entries_from (1 + 4 * length bodies) bodies) (together bodies) (1 + 4 * length bodies) (omega arith);
      ends = omega arith;
    }

module _ (bytes : List ℕ) (bodies : List (List ℕ)) (h : IsBook bytes bodies) where
  book_rest : Rest bytes (together bodies) 0 bodies
  book_rest = subst (λ (w : List ℕ). Rest w (together bodies) 0 bodies) (sym h.made) (rest_all bodies)

  pub book_count : count_in bytes ≡ length bodies
  book_count = ap count_in h.made

  pub book_right : (j : ℕ) → j < count_in bytes → Right bytes j
  book_right j l = rest_right bytes (together bodies) 0 bodies book_rest j (omega arith) (omega (arith, book_count))

  pub book_ends : start_in bytes (count_in bytes) ≡ length bytes
  book_ends = ap (start_in bytes) (let e : count_in bytes ≡ 0 + length bodies = omega (arith, book_count) in e) ∙ rest_ends bytes (together bodies) 0 bodies book_rest

  pub book_bodies : bodies ≡ bodies_in bytes
  book_bodies = rest_bodies bytes (together bodies) 0 bodies book_rest ∙ ap (λ (n : ℕ). map (body_in bytes) (range_with_len 0 n)) (sym book_count)

  pub book_holds : (k : ℕ) → k < length bodies → Holds bytes k
  book_holds k l =
      let low : k < count_in bytes = omega (arith, book_count) in
      let r = book_right k low in
      (low, r.there, omega (arith, r.placed, r.within))

  pub book_no_body : (k : ℕ) → (Holds bytes k → ⊥) → length bodies ≤ k
  book_no_body k n = elim (cases_lt k (length bodies)) [ inl l ↦ absurd (n (book_holds k l)) | inr l ↦ l ]

  pub book_body : (k : ℕ) (part : List ℕ) → Holds bytes k → part ≡ body_in bytes k → (k < length bodies) × (part ≡ get_or bodies k [])
  book_body k part g e = (
    omega (arith, g.0, book_count),
    e ∙ sym (get_or-map-range_with_len (body_in bytes) 0 (count_in bytes) k k [] g.0 (omega arith)) ∙ ap (λ (w : List (List ℕ)). get_or w k []) (sym book_bodies),
  )

  -- what the bytes give as body k is body k of the book; where they give none, the book has no body k
  pub book_given : (k : ℕ) (given : Option (Bor (List ℕ))) → Gives bytes k given → MatchOption given (length bodies ≤ k) (λ p. (k < length bodies) × (p.now ≡ get_or bodies k []))
  book_given k None n = book_no_body k n
  book_given k (Some p) g = book_body k p.now g.0 g.1

-- each entry that a book counts holds
pub book_held : (bytes : List ℕ) → IsBook bytes (bodies_in bytes) → (k : ℕ) → k < count_in bytes → Holds bytes k
book_held bytes h k l = book_holds bytes (bodies_in bytes) h k (omega (arith, book_count bytes (bodies_in bytes) h))

-- the part of the bytes from where body k begins up to where it ends is there, and is body k
pub part_given : (bytes : List ℕ) (k from to : ℕ) (part : Option (Bor (List ℕ))) → IsGetRangeResult bytes from to part → Holds bytes k → from ≡ offset_in bytes k → to ≡ offset_in bytes k + length_in bytes k → Gives bytes k part
part_given bytes k from to None g held begins ends = absurd (elim g.0 [ inl l ↦ omega (arith, begins, ends) | inr l ↦ omega (arith, ends, held.2) ])
part_given bytes k from to (Some p) g held begins ends =
    let size : to - from ≡ length_in bytes k = omega (arith, begins, ends) in
    (held, g.0.2 ∙ ap (λ (n : ℕ). take n (drop from bytes)) size ∙ ap (λ (n : ℕ). take (length_in bytes k) (drop n bytes)) begins)
