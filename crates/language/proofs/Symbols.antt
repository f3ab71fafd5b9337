-- The symbols of positions, and the words that positions spell.
use Rattle.std.proofs.Common.{◌≡◌, ℕ, zero, suc, ◌+◌, ◌<◌, ◌≤◌, Bool, true, List, [], ◌∷◌, ◌++◌, length, get_or, Some, None, Option, sym, refl, ap, ◌∙◌, subst, add-one, arith}
use Rattle.std.proofs.lemmas.Bool.{false≢true}
use Rattle.symbols.specs.Kinds.{KindLaws}
use Rattle.language.specs.Meaning.{symbol_at, before, spelled, like, agree, Spells}

module _ {S : Type 0} where
  symbol_next : (a : S) (xs : List S) (i : ℕ) → symbol_at (a ∷ xs) (suc i + 1) ≡ symbol_at xs (i + 1)
  symbol_next a xs i = ap (symbol_at (a ∷ xs)) (add-one (suc i)) ∙ sym (ap (symbol_at xs) (add-one i))

  -- the symbol of position i + 1 is what stands at i
  pub symbol_is : (xs : List S) (i : ℕ) (a : S) → i < length xs → a ≡ get_or xs i a → symbol_at xs (i + 1) ≡ Some a
  symbol_is [] i a h e = absurd (omega arith)
  symbol_is (b ∷ xs) zero a h e = ap Some (sym e)
  symbol_is (b ∷ xs) (suc i) a h e = symbol_next b xs i ∙ symbol_is xs i a (omega arith) e

  -- just the positions from 1 to the number of symbols have one
  pub symbol_within : (xs : List S) (x : ℕ) (a : S) → symbol_at xs x ≡ Some a → (1 ≤ x) × (x ≤ length xs)
  symbol_within xs zero a e = let z : ◌≡◌ {A = ℕ} 0 1 = cc in absurd (omega arith)
  symbol_within [] (suc x) a e = let z : ◌≡◌ {A = ℕ} 0 1 = cc in absurd (omega arith)
  symbol_within (b ∷ xs) (suc zero) a e = (omega arith, omega arith)
  symbol_within (b ∷ xs) (suc (suc x)) a e = let h = symbol_within xs (suc x) a e in (omega arith, omega arith)

  pub symbol_some : (xs : List S) (x : ℕ) → 1 ≤ x → x ≤ length xs → (a : S) × (symbol_at xs x ≡ Some a)
  symbol_some xs zero h k = absurd (omega arith)
  symbol_some [] (suc x) h k = absurd (omega arith)
  symbol_some (b ∷ xs) (suc zero) h k = (b, refl)
  symbol_some (b ∷ xs) (suc (suc x)) h k = symbol_some xs (suc x) (omega arith) (omega arith)

module _ {S : Type 0} (same : S → S → Bool) where
  pub agree_is : (xs : List S) (x y : ℕ) (a b : S) → x < length xs → y < length xs → a ≡ get_or xs x a → b ≡ get_or xs y b
      → agree same (symbol_at xs (x + 1)) (symbol_at xs (y + 1)) ≡ same a b
  agree_is xs x y a b h k e f =
      ap (λ o. agree same o (symbol_at xs (y + 1))) (symbol_is xs x a h e) ∙ ap (agree same (Some a)) (symbol_is xs y b k f)

  pub like_is : (xs : List S) (y : ℕ) (a b : S) → y < length xs → b ≡ get_or xs y b → like same (symbol_at xs (y + 1)) a ≡ same b a
  like_is xs y a b h e = ap (λ o. like same o a) (symbol_is xs y b h e)

  pub like_within : (xs : List S) (x : ℕ) (a : S) → like same (symbol_at xs x) a ≡ true → (1 ≤ x) × (x ≤ length xs)
  like_within xs x a h = «by» (symbol_at xs x) refl h
    where
      «by» : (o : Option S) → symbol_at xs x ≡ o → like same o a ≡ true → (1 ≤ x) × (x ≤ length xs)
      «by» None e h = absurd (false≢true h)
      «by» (Some b) e h = symbol_within xs x b e

  pub agree_within : (xs : List S) (x y : ℕ) → agree same (symbol_at xs x) (symbol_at xs y) ≡ true → ((1 ≤ x) × (x ≤ length xs)) × ((1 ≤ y) × (y ≤ length xs))
  agree_within xs x y e = «by» (symbol_at xs y) refl e
    where
      «by» : (o : Option S) → symbol_at xs y ≡ o → agree same (symbol_at xs x) o ≡ true → ((1 ≤ x) × (x ≤ length xs)) × ((1 ≤ y) × (y ≤ length xs))
      «by» None f h = absurd (false≢true h)
      «by» (Some b) f h = (like_within xs x b h, symbol_within xs y b f)

  module _ {foreign : S → Bool} (laws : KindLaws same foreign) where
    pub agree_turn : (o q : Option S) → agree same o q ≡ true → agree same q o ≡ true
    agree_turn None None e = e
    agree_turn None (Some b) e = absurd (false≢true e)
    agree_turn (Some a) None e = absurd (false≢true e)
    agree_turn (Some a) (Some b) e = laws.symmetric a b e

    -- two positions with the same symbol as a have the same symbol
    pub like_agree : (o q : Option S) (a : S) → like same o a ≡ true → like same q a ≡ true → agree same o q ≡ true
    like_agree None q a h k = absurd (false≢true h)
    like_agree (Some b) None a h k = absurd (false≢true k)
    like_agree (Some b) (Some c) a h k = laws.transitive b a c h (laws.symmetric c a k)

  -- positions and the word that they spell, joined and split
  pub spells_join : (xs : List S) (u v : List ℕ) (s t : List S) → Spells same xs u s → Spells same xs v t → Spells same xs (u ++ v) (s ++ t)
  spells_join xs [] v [] t h k = k
  spells_join xs [] v (a ∷ s) t h k = absurd h
  spells_join xs (x ∷ u) v [] t h k = absurd h
  spells_join xs (x ∷ u) v (a ∷ s) t h k = (h.0, spells_join xs u v s t h.1 k)

  pub spells_split : (xs : List S) (w : List ℕ) (s t : List S) → Spells same xs w (s ++ t)
      → (u : List ℕ) × (v : List ℕ) × (w ≡ u ++ v) × Spells same xs u s × Spells same xs v t
  spells_split xs w [] t h = ([], w, refl, tt, h)
  spells_split xs [] (a ∷ s) t h = absurd h
  spells_split xs (x ∷ w) (a ∷ s) t h = let r = spells_split xs w s t h.1 in (x ∷ r.0, r.1, ap (λ l. x ∷ l) r.2, (h.0, r.3), r.4)

  -- each position of the list is one from 1 to n
  abbrev pub Within : ℕ → List ℕ → Type 0
  Within n [] = Unit {0}
  Within n (x ∷ w) = ((1 ≤ x) × (x ≤ n)) × Within n w

  pub within_right : (n : ℕ) (u v : List ℕ) → Within n (u ++ v) → Within n v
  within_right n [] v h = h
  within_right n (x ∷ u) v h = within_right n u v h.1

  -- positions spell their own symbols
  pub spells_own : ((a : S) → same a a ≡ true) → (xs : List S) (w : List ℕ) → Within (length xs) w → Spells same xs w (spelled xs w)
  spells_own own xs [] h = tt
  spells_own own xs (x ∷ w) h =
      let a = symbol_some xs x h.0.0 h.0.1 in
      subst (λ o. Spells same xs (x ∷ w) (before o (spelled xs w))) (sym a.1) (ap (λ o. like same o a.0) a.1 ∙ own a.0, spells_own own xs w h.1)
