-- The positions that have a name, found one after the other. Assumes nothing.
use Rattle.std.proofs.Common.{◌≡◌, ℕ, ◌+◌, ◌*◌, ◌%◌, ◌^◌, ◌<◌, ◌≤◌, min, true, false, List, length, get_or, set as write, sym, ap, ◌∙◌, subst, ⊎_elim, arith}
use lib.Bits.{bit_or}
use Rattle.std.proofs.lemmas.List.{length-take, get_or_default, get_or-set_same, get_or-set_other}
use Rattle.std.proofs.lemmas.Nat.{one_shl}
use Rattle.std.proofs.lemmas.Bool.{cases_lt}
use Rattle.symbols.specs.NameRows.{name_same}
use Rattle.symbols.specs.declared.name_rows.NameRow.{NameRow}
use Rattle.tables.specs.Places.{bit}
use Rattle.editor.specs.declared.matching.Namesakes.{Namesakes}
use Rattle.editor.specs.declared.studying.Studied.{Studied}
use Rattle.editor.specs.Matching.{Marks}
use Rattle.editor.specs.Tabled.{names_of}
use Rattle.editor.proofs.Bits.{added, not_added, no_bits}

-- no model has over 64 names
pub few_names : (k : Studied) → length (names_of k) ≤ 64
few_names k = let l : length (names_of k) ≡ min k.count (length k.names) = length-take k.count k.names in omega (arith, l, k.few)

-- the first k names are told, and no bit past them is set
pub record MarkedTo (k set : ℕ) (name : NameRow) (names : List NameRow) : Type 0 where
  pub below : (j : ℕ) (d : NameRow) → j < k → bit set j ≡ name_same (get_or names j d) name
  pub above : (j : ℕ) → k ≤ j → bit set j ≡ false

pub none_yet : (name : NameRow) (names : List NameRow) → MarkedTo 0 0 name names
none_yet name names = record { below = λ j d l. absurd (omega arith); above = λ j l. no_bits j }

module _ (k set : ℕ) (name : NameRow) (names : List NameRow) (m : MarkedTo k set name names) (inside : k < length names) (e : NameRow) where
  -- name k, whatever stands for it past the end
  here : (d : NameRow) → name_same (get_or names k e) name ≡ name_same (get_or names k d) name
  here d = ap (λ x. name_same x name) (get_or_default names k e d inside)

  -- name k is another
  pub passed : name_same (get_or names k e) name ≡ false → MarkedTo (k + 1) set name names
  passed f = record {
    below = λ j d l. ⊎_elim (λ h. m.below j d h)
        (λ h. let q : k ≡ j = omega arith in subst (λ i. bit set i ≡ name_same (get_or names i d) name) q (m.above k (omega arith) ∙ sym f ∙ here d)) (cases_lt j k);
    above = λ j l. m.above j (omega arith);
  }

  -- name k is the same
  pub found : k < 64 → name_same (get_or names k e) name ≡ true → MarkedTo (k + 1) (bit_or set ((1 * 2 ^ k) % 2 ^ 64)) name names
  found h f =
      subst (λ b. MarkedTo (k + 1) (bit_or set b) name names) (sym (one_shl k 64 h))
      (record {
        below = λ j d l. ⊎_elim (λ h. not_added set k j (λ q. omega arith) ∙ m.below j d h)
            (λ h. let q : k ≡ j = omega arith in subst (λ i. bit (bit_or set (2 ^ k)) i ≡ name_same (get_or names i d) name) q (added set k ∙ sym f ∙ here d)) (cases_lt j k);
        above = λ j l. not_added set k j (λ q. omega arith) ∙ m.above j (omega arith);
      })

-- the sets of the first j names are found
abbrev pub FoundTo : ℕ → List Namesakes → List NameRow → List NameRow → Type 0
FoundTo j sets firsts names = (i : ℕ) (s : Namesakes) (d : NameRow) → i < j → Marks (get_or sets i s).positions (get_or firsts i d) names

-- and one more
pub one_more : (j : ℕ) (sets : List Namesakes) (firsts names : List NameRow) (set : Namesakes) (e : NameRow) → FoundTo j sets firsts names → j < length sets → j < length firsts
    → Marks set.positions (get_or firsts j e) names → FoundTo (j + 1) (write sets j set) firsts names
one_more j sets firsts names set e f inside within m i s d l =
    ⊎_elim
    (λ h. subst (λ x. Marks x.positions (get_or firsts i d) names) (sym (get_or-set_other sets j i set s (λ q. omega arith))) (f i s d h))
    (λ h. let q : j ≡ i = omega arith in
    subst (λ n. Marks (get_or (write sets j set) n s).positions (get_or firsts n d) names) q
    (subst (λ x. Marks x.positions (get_or firsts j d) names) (sym (get_or-set_same sets j set s inside)) (subst (λ x. Marks set.positions x names) (get_or_default firsts j e d within) m)))
    (cases_lt i j)
