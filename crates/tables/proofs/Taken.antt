-- What the layers take. Assumes nothing.
use Rattle.std.proofs.Common.{◌≡◌, ℕ, ◌+◌, ◌*◌, ◌/◌, ◌%◌, ◌<◌, ◌≤◌, Bool, true, false, cond, not, ◌&&◌, ltb, leb, ◌⊎◌, List, [], ◌∷◌, length, Some, None, Option, sym, refl, ap, ◌∙◌, inl, inr, mul_comm, zero-add, zero-mul, arith}
use Rattle.std.proofs.lemmas.Nat.{mul-le, mul-add-lt, mod-mul-add, div-mul-add}
use Rattle.std.proofs.lemmas.Bool.{and_right, lt-ltb, le-ltb, le-leb, lt-leb, cases_lt}
use Rattle.tables.specs.Tables.{Table, Sound, onward, ends_from, takes}
use Rattle.tables.specs.Layers.{limit_table, skip_table, own}

module _ {S : Type 0} (foreign : S → Bool) (t : Table S) (l : Sound t) where
  skip_from : (x : ℕ) (w : List S) → x < t.states → ends_from (skip_table foreign t) x w ≡ ends_from t x (own foreign w)
  skip_from x [] h = refl
  skip_from x (a ∷ w) h = by (foreign a) (t.goes x a) refl refl (skip_from x w h) (λ y k. skip_from y w k)
    where
      by : (f : Bool) (o : Option ℕ) → foreign a ≡ f → t.goes x a ≡ o →
          ends_from (skip_table foreign t) x w ≡ ends_from t x (own foreign w) →
          ((y : ℕ) → y < t.states → ends_from (skip_table foreign t) y w ≡ ends_from t y (own foreign w)) →
          onward (cond f (cond (ltb x t.states) (Some x) None) o) false (λ y. ends_from (skip_table foreign t) y w) ≡ ends_from t x (cond (not f) (a ∷ own foreign w) (own foreign w))
      by true o e g here on = ap (λ b. onward (cond b (Some x) None) false (λ y. ends_from (skip_table foreign t) y w)) (lt-ltb x t.states h) ∙ here
      by false None e g here on = ap (λ o. onward o false (λ y. ends_from t y (own foreign w))) (sym g)
      by false (Some y) e g here on = on y (l.lands x y a g) ∙ ap (λ o. onward o false (λ y. ends_from t y (own foreign w))) (sym g)

  pub skip_takes : (w : List S) → takes (skip_table foreign t) w ≡ takes t (own foreign w)
  skip_takes w = skip_from t.start w l.starts

module _ {S : Type 0} (n : ℕ) (t : Table S) (l : Sound t) where
  -- the state to which a limit's step leads, under the test
  abbrev led : ℕ → S → Option ℕ
  led s a = onward (t.goes (s % t.states) a) None (λ z. Some ((s / t.states + 1) * t.states + z))

  led_is : (k x : ℕ) (a : S) → x < t.states → led (k * t.states + x) a ≡ onward (t.goes x a) None (λ z. Some ((k + 1) * t.states + z))
  led_is k x a h = ap (λ r. onward (t.goes r a) None (λ z. Some (((k * t.states + x) / t.states + 1) * t.states + z))) (mod-mul-add k t.states x h)
      ∙ ap (λ q. onward (t.goes x a) None (λ z. Some ((q + 1) * t.states + z))) (div-mul-add k t.states x h)

  -- one symbol more, while there is room
  limit_on : (k x : ℕ) (a : S) → k < n → x < t.states → (limit_table n t).goes (k * t.states + x) a ≡ onward (t.goes x a) None (λ z. Some ((k + 1) * t.states + z))
  limit_on k x a h xs =
      let inside : k * t.states + x < t.states * n = mul-add-lt k t.states x n h xs in
      ap (λ b. cond b (led (k * t.states + x) a) None) (lt-ltb _ _ inside) ∙ led_is k x a xs

  limit_full : (k x : ℕ) (a : S) → n ≤ k → (limit_table n t).goes (k * t.states + x) a ≡ None
  limit_full k x a h =
      let past : t.states * n ≤ k * t.states + x = omega (arith, mul-le n t.states k t.states h (omega arith), mul_comm n t.states) in
      ap (λ b. cond b (led (k * t.states + x) a) None) (le-ltb _ _ past)

  limit_from : (k x : ℕ) (w : List S) → k ≤ n → x < t.states → ends_from (limit_table n t) (k * t.states + x) w ≡ (leb (k + length w) n && ends_from t x w)
  limit_from k x [] h xs =
      let inside : k * t.states + x < t.states * (n + 1) = mul-add-lt k t.states x (n + 1) (omega arith) xs in
      ap (λ b. b && t.ending ((k * t.states + x) % t.states)) (lt-ltb _ _ inside)
      ∙ ap t.ending (mod-mul-add k t.states x xs)
      ∙ sym (ap (λ b. b && t.ending x) (le-leb (k + 0) n (omega arith)))
  limit_from k x (a ∷ w) h xs = by (cases_lt k n) (t.goes x a) refl (λ y i j. limit_from (k + 1) y w i j)
    where
      by : ((k < n) ⊎ (n ≤ k)) → (o : Option ℕ) → t.goes x a ≡ o →
          ((y : ℕ) → k + 1 ≤ n → y < t.states → ends_from (limit_table n t) ((k + 1) * t.states + y) w ≡ (leb (k + 1 + length w) n && ends_from t y w)) →
          ends_from (limit_table n t) (k * t.states + x) (a ∷ w) ≡ (leb (k + length (a ∷ w)) n && ends_from t x (a ∷ w))
      by (inr full) o g on =
          ap (λ q. onward q false (λ z. ends_from (limit_table n t) z w)) (limit_full k x a full)
          ∙ sym (ap (λ b. b && ends_from t x (a ∷ w)) (lt-leb (k + length (a ∷ w)) n (omega arith)))
      by (inl more) None g on =
          ap (λ q. onward q false (λ z. ends_from (limit_table n t) z w)) (limit_on k x a more xs ∙ ap (λ q. onward q None (λ z. Some ((k + 1) * t.states + z))) g)
          ∙ sym (and_right (leb (k + length (a ∷ w)) n) (ends_from t x (a ∷ w)) (ap (λ q. onward q false (λ z. ends_from t z w)) g))
      by (inl more) (Some y) g on =
          ap (λ q. onward q false (λ z. ends_from (limit_table n t) z w)) (limit_on k x a more xs ∙ ap (λ q. onward q None (λ z. Some ((k + 1) * t.states + z))) g)
          ∙ on y (omega arith) (l.lands x y a g)
          ∙ ap (λ c. leb c n && ends_from t y w) (omega arith)
          ∙ ap (λ q. leb (k + length (a ∷ w)) n && onward q false (λ z. ends_from t z w)) (sym g)

  pub limit_takes : (w : List S) → takes (limit_table n t) w ≡ (leb (length w) n && takes t w)
  limit_takes w =
      ap (λ s. ends_from (limit_table n t) s w) (sym (ap (λ z. z + t.start) (zero-mul t.states) ∙ zero-add t.start))
      ∙ limit_from 0 t.start w (omega arith) l.starts
      ∙ ap (λ z. leb z n && takes t w) (zero-add (length w))
