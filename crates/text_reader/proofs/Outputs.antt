-- How the output grows. Assumes nothing.
use Rattle.std.proofs.Common.{◌≡◌, ℕ, ◌<◌, ◌≤◌, List, [], ◌∷◌, ◌++◌, map, length, take, Result, Ok, Err, IsOk, OnOk, OnErr, sym, refl, ap, ◌∙◌, subst, ⊎_elim, append_assoc, append-nil, arith, length-append}
use Rattle.std.proofs.lemmas.List.{map_push, take_all, take-append-le, length-take-le}
use Rattle.std.proofs.str.Laws.{order}
use Rattle.symbols.specs.NameRows.{name_row}
use Rattle.symbols.specs.declared.name_rows.NameRow.{NameRow}
use Rattle.text_reader.specs.declared.output.Output.{Output}
use Rattle.text_reader.specs.Output.{Holds, Grew}

-- the names stay when none is added
same_names : (o p : Output) (us : List (List ℕ)) → p.rows.items ≡ o.rows.items → o.rows.items ≡ map name_row us → p.rows.items ≡ map name_row (us ++ [])
same_names o p us r e = r ∙ e ∙ ap (λ (z : List (List ℕ)). map name_row z) (sym (append-nil us))

-- one more code
pub pushed : (o p : Output) (b : ℕ) → length o.codes.items < 1280 → p.codes.items ≡ o.codes.items ++ (b ∷ []) →
    p.rows.items ≡ o.rows.items → Grew o p (b ∷ []) []
pushed o p b s e r = record { found = omega (arith, ap length r); holds = go }
  where
    go : (u : List ℕ) (us : List (List ℕ)) → Holds o u us → Holds p (u ++ (b ∷ [])) (us ++ [])
    go u us k =
        let l : length u < 1280 = ⊎_elim (λ l. l) (λ l. absurd (omega (arith, ap length k.kept, length-take-le 1280 u l))) (order (length u) 1280) in
        let all : take 1280 u ≡ u = take_all 1280 u (omega arith) in
        let all' : take 1280 (u ++ (b ∷ [])) ≡ u ++ (b ∷ []) = take_all 1280 (u ++ (b ∷ [])) (omega (arith, length-append u (b ∷ []))) in
        record {
          kept = e ∙ ap (λ (z : List ℕ). z ++ (b ∷ [])) (k.kept ∙ all) ∙ sym all';
          named = same_names o p us r k.named;
        }

-- a code that finds no cell
pub dropped : (o p : Output) (b : ℕ) → 1280 ≤ length o.codes.items → p.codes.items ≡ o.codes.items →
    p.rows.items ≡ o.rows.items → Grew o p (b ∷ []) []
dropped o p b h e r = record { found = omega (arith, ap length r); holds = go }
  where
    go : (u : List ℕ) (us : List (List ℕ)) → Holds o u us → Holds p (u ++ (b ∷ [])) (us ++ [])
    go u us k =
        let long : 1280 ≤ length u = ⊎_elim (λ l. absurd (omega (arith, ap length k.kept, ap length (take_all 1280 u (omega arith))))) (λ l. l) (order (length u) 1280) in
        record {
          kept = e ∙ k.kept ∙ sym (take-append-le 1280 u (b ∷ []) long);
          named = same_names o p us r k.named;
        }

-- one more name
pub pushed_name : (o p : Output) (n : List ℕ) → p.codes.items ≡ o.codes.items →
    p.rows.items ≡ o.rows.items ++ (name_row n ∷ []) → Grew o p [] (n ∷ [])
pushed_name o p n e r = record { found = omega (arith, ap length r, length-append o.rows.items (name_row n ∷ [])); holds = go }
  where
    go : (u : List ℕ) (us : List (List ℕ)) → Holds o u us → Holds p (u ++ []) (us ++ (n ∷ []))
    go u us k = record {
      kept = e ∙ k.kept ∙ ap (λ (z : List ℕ). take 1280 z) (sym (append-nil u));
      named = r ∙ ap (λ (z : List NameRow). z ++ (name_row n ∷ [])) k.named ∙ sym (map_push name_row us n);
    }

-- growth and more growth
pub both : {o p q : Output} (w v : List ℕ) (ns ms : List (List ℕ)) → Grew o p w ns → Grew p q v ms →
    Grew o q (w ++ v) (ns ++ ms)
both {o} {p} {q} w v ns ms g h =
    record {
      found = omega (arith, g.found, h.found, length-append ns ms);
      holds = λ u us k. subst (λ (z : List ℕ). Holds q z (us ++ (ns ++ ms))) (append_assoc u w v) (subst (λ (z : List (List ℕ)). Holds q ((u ++ w) ++ v) z) (append_assoc us ns ms) (h.holds (u ++ w) (us ++ ns) (g.holds u us k)));
    }

pub with_codes : {o p q : Output} (w v : List ℕ) (ns : List (List ℕ)) → Grew o p w ns → Grew p q v [] →
    Grew o q (w ++ v) ns
with_codes {o} {p} {q} w v ns g h = subst (λ (z : List (List ℕ)). Grew o q (w ++ v) z) (append-nil ns) (both w v ns [] g h)

-- no growth
pub still : (o : Output) → Grew o o [] []
still o = record { found = omega arith; holds = λ u us k. subst (λ (z : List ℕ). Holds o z (us ++ [])) (sym (append-nil u)) (subst (λ (z : List (List ℕ)). Holds o u z) (sym (append-nil us)) k) }

-- one more code, where a cell is left
pub kept_code : {E : Type 0} (r : Result (Unit {0}) E) (o p : Output) (b : ℕ) → (IsOk r → length o.codes.items < 1280) →
    OnOk r (p.codes.items ≡ o.codes.items ++ (b ∷ [])) → OnErr r (p.codes ≡ o.codes) → OnErr r (length o.codes.items ≡ 1280) →
    p.rows.items ≡ o.rows.items → Grew o p (b ∷ []) []
kept_code (Ok x) o p b s e f h r = pushed o p b (s refl) e r
kept_code (Err x) o p b s e f h r = dropped o p b (omega (arith, h)) (ap (λ v. v.items) f) r

-- one more name, where a cell is left
pub kept_name : {E : Type 0} (r : Result (Unit {0}) E) (o p : Output) (n : List ℕ) (row : NameRow) → row ≡ name_row n →
    p.codes.items ≡ o.codes.items → OnOk r (p.rows.items ≡ o.rows.items ++ (row ∷ [])) → OnOk r (Grew o p [] (n ∷ []))
kept_name (Ok x) o p n row e f h = pushed_name o p n f (h ∙ ap (λ (z : NameRow). o.rows.items ++ (z ∷ [])) e)
kept_name (Err x) o p n row e f h = tt
