-- The entries of a book read one after the other. Assumes nothing.
use Rattle.std.proofs.Common.{◌≡◌, ℕ, ◌+◌, ◌*◌, ◌<◌, ◌≤◌, List, [], ◌∷◌, ◌++◌, map, length, take, drop, sym, refl, ap, ◌∙◌, inl, inr, add-one, arith, below_more}
use Rattle.std.specs.List.{range_with_len}
use Rattle.std.proofs.lemmas.List.{append_assoc, append-nil, length-append, length-take, length-drop, drop-drop, take_all}
use Rattle.std.proofs.lemmas.List.FromFn.{length-map-range_with_len, map-range_with_len_more}
use Rattle.faults.specs.declared.Fault.TheVariants.{WrongBook}
use Rattle.book.specs.Books.{two_bytes, together, entries_from, IsBook}
use Rattle.book.specs.Entries.{count_in, offset_in, length_in, start_in, body_in, bodies_in, Right, FirstWrong, Refused}
use Rattle.book.proofs.Laid.{entries_push, together_push, take_add, Says, entry_says}

-- the first k bodies as their entries give them
abbrev pub first_bodies : List ℕ → ℕ → List (List ℕ)
first_bodies bytes k = map (body_in bytes) (range_with_len 0 k)

-- k entries are right: what is left of the entries, and where body k has to begin
pub record Front (bytes : List ℕ) (k : ℕ) (left : List ℕ) (start : ℕ) : Type 0 where
  pub at : left ≡ drop (1 + 4 * k) bytes
  pub from : start ≡ start_in bytes k
  pub right : (j : ℕ) → j < k → Right bytes j
  pub entries : take (1 + 4 * k) bytes ≡ count_in bytes ∷ entries_from (1 + 4 * count_in bytes) (first_bodies bytes k)
  pub bodies : take start bytes ≡ take (1 + 4 * count_in bytes) bytes ++ together (first_bodies bytes k)
  pub sum : start ≡ 1 + 4 * count_in bytes + length (together (first_bodies bytes k))
  pub inside : 1 ≤ k → start ≤ length bytes

pub front_none : (bytes : List ℕ) → 1 ≤ length bytes → Front bytes 0 (drop 1 bytes) (1 + 4 * count_in bytes)
front_none [] h = absurd (omega arith)
front_none (c ∷ bytes) h = record {
  at = refl;
  from = refl;
  right = λ j l. absurd (omega arith);
  entries = refl;
  bodies = sym (append-nil (take (1 + 4 * c) (c ∷ bytes)));
  sum = omega arith;
  inside = λ l. absurd (omega arith);
}

module _ (bytes : List ℕ) (k : ℕ) (left : List ℕ) (start : ℕ) (f : Front bytes k left start) where
  pub front_cut : k < count_in bytes → length left < 4 → FirstWrong bytes k
  front_cut h l = let e = ap length f.at in let d = length-drop (1 + 4 * k) bytes in record { inside = h; before = f.right; here = inl (omega arith) }

  module _ (offset size : ℕ) (rest : List ℕ) (e : left ≡ two_bytes offset ++ (two_bytes size ++ rest)) where
    here_is : drop (1 + 4 * k) bytes ≡ two_bytes offset ++ (two_bytes size ++ rest)
    here_is = sym f.at ∙ e

    says : Says bytes k offset size
    says = entry_says bytes k offset size rest here_is

    pub front_misplaced : k < count_in bytes → (offset ≡ start → ⊥) → FirstWrong bytes k
    front_misplaced h n = record { inside = h; before = f.right; here = inr (inl (λ p. n (omega (arith, says.places, f.from)))) }

    pub front_long : k < count_in bytes → length bytes < start + size → FirstWrong bytes k
    front_long h l = record { inside = h; before = f.right; here = inr (inr (omega (arith, says.sizes, f.from))) }

    module _ (placed : offset ≡ start) (within : start + size ≤ length bytes) where
      right_here : Right bytes k
      right_here = record { there = says.there; placed = omega (arith, says.places, f.from); within = omega (arith, says.sizes, f.from) }

      body_here : body_in bytes k ≡ take size (drop start bytes)
      body_here =
          ap (λ (n : ℕ). take n (drop (offset_in bytes k) bytes)) says.sizes
          ∙ ap (λ (n : ℕ). take size (drop n bytes)) (says.places ∙ placed)

      length_here : length (body_in bytes k) ≡ size
      length_here =
          let a = length-take size (drop start bytes) in
          let b = length-drop start bytes in
          let c = ap length body_here in
          omega arith

      more_bodies : first_bodies bytes (k + 1) ≡ first_bodies bytes k ++ body_in bytes k ∷ []
      more_bodies = map-range_with_len_more (body_in bytes) 0 k k (omega arith)

      more_together : together (first_bodies bytes (k + 1)) ≡ together (first_bodies bytes k) ++ body_in bytes k
      more_together = ap together more_bodies ∙ together_push (first_bodies bytes k) (body_in bytes k)

      more_entries : entries_from (1 + 4 * count_in bytes) (first_bodies bytes (k + 1)) ≡ entries_from (1 + 4 * count_in bytes) (first_bodies bytes k) ++ (two_bytes offset ++ two_bytes size)
      more_entries =
          ap (entries_from (1 + 4 * count_in bytes)) more_bodies
          ∙ entries_push (1 + 4 * count_in bytes) (first_bodies bytes k) (body_in bytes k)
          ∙ ap (λ (n : ℕ). entries_from (1 + 4 * count_in bytes) (first_bodies bytes k) ++ (two_bytes n ++ two_bytes (length (body_in bytes k)))) (sym f.sum ∙ sym placed)
          ∙ ap (λ (n : ℕ). entries_from (1 + 4 * count_in bytes) (first_bodies bytes k) ++ (two_bytes offset ++ two_bytes n)) length_here

      pub front_more : Front bytes (k + 1) rest (start + size)
      front_more =
          let four : 1 + 4 * (k + 1) ≡ 1 + 4 * k + 4 = omega arith in
          let l = length-append (together (first_bodies bytes k)) (body_in bytes k) in
          let m = ap length more_together in
          record {
            at = sym (ap (λ (n : ℕ). drop n bytes) four ∙ sym (drop-drop 4 (1 + 4 * k) bytes) ∙ ap (drop 4) here_is);
            from = (let p : start + size ≡ start_in bytes k + length_in bytes k = omega (arith, says.sizes, f.from) in p) ∙ ap (start_in bytes) (sym (add-one k));
            right = below_more (Right bytes) k f.right right_here;
            entries =
                ap (λ (n : ℕ). take n bytes) four
                ∙ take_add (1 + 4 * k) 4 bytes
                ∙ ap (λ (w : List ℕ). take (1 + 4 * k) bytes ++ take 4 w) here_is
                ∙ ap (λ (w : List ℕ). w ++ (two_bytes offset ++ two_bytes size)) f.entries
                ∙ ap (λ (w : List ℕ). count_in bytes ∷ w) (sym more_entries);
            bodies =
                take_add start size bytes
                ∙ ap (λ (w : List ℕ). w ++ take size (drop start bytes)) f.bodies
                ∙ append_assoc (take (1 + 4 * count_in bytes) bytes) (together (first_bodies bytes k)) (take size (drop start bytes))
                ∙ ap (λ (w : List ℕ). take (1 + 4 * count_in bytes) bytes ++ (together (first_bodies bytes k) ++ w)) (sym body_here)
                ∙ ap (λ (w : List ℕ). take (1 + 4 * count_in bytes) bytes ++ w) (sym more_together);
            sum = omega (arith, f.sum, length_here);
            inside = λ _. within;
          }

-- entry k is the first wrong one
pub refused_at : (bytes : List ℕ) (k : ℕ) → length bytes ≤ 16384 → 1 ≤ count_in bytes → count_in bytes ≤ 16 → FirstWrong bytes k → Refused bytes (WrongBook k)
refused_at bytes k short some most first = inr (short, (k, refl, inr (inl ((some, most), first))))

-- all entries are right, and bytes are left over
pub refused_over : (bytes left : List ℕ) (start : ℕ) → Front bytes (count_in bytes) left start → length bytes ≤ 16384 → 1 ≤ count_in bytes → count_in bytes ≤ 16 → start < length bytes → Refused bytes (WrongBook (count_in bytes))
refused_over bytes left start f short some most over = inr (short, (count_in bytes, refl, inr (inr ((some, most), record { all = f.right; over = omega (arith, f.from) }, refl))))

-- all entries are right, and the last body ends the bytes
pub front_all : (bytes left : List ℕ) (start : ℕ) → Front bytes (count_in bytes) left start → length bytes ≤ start → 1 ≤ count_in bytes → count_in bytes ≤ 16 → length bytes ≤ 16384 → IsBook bytes (bodies_in bytes)
front_all bytes left start f l some most short =
    let c = length-map-range_with_len (body_in bytes) 0 (count_in bytes) in
    record {
      some = omega arith;
      most = omega arith;
      short = short;
      made =
          sym (take_all start bytes l)
          ∙ f.bodies
          ∙ ap (λ (w : List ℕ). w ++ together (bodies_in bytes)) f.entries
          ∙ ap (λ (n : ℕ). n ∷ (entries_from (1 + 4 * n) (bodies_in bytes) ++ together (bodies_in bytes))) (sym c);
    }
