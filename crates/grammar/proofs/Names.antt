-- Each name of a model within 32 bytes is a name. Assumes nothing.
use Rattle.std.proofs.Common.{◌≡◌, ℕ, ◌+◌, ◌-◌, ◌<◌, ◌≤◌, Bool, true, List, length, get_or, drop, refl, ap, ◌∙◌, subst, ⊎_elim, arith, length-drop, length-take-le}
use Rattle.std.specs.List.{AllByRecursion}
use Rattle.std.proofs.ByRecursion.{All-append}
use Rattle.std.proofs.lemmas.List.{get_or-take, get_or-drop}
use Rattle.std.proofs.lemmas.Bool.Decides.{nat_tests}
use Rattle.std.proofs.str.Laws.{order}
use Rattle.symbols.specs.Rule.{start, inner, allowed, IsName}
use Rattle.tokens.specs.Tokens.{While, stop, on, slice}
use Rattle.tokens.proofs.Runs.{while_le, run_inside}
use Rattle.grammar.specs.Grammar.{Name, Sym, Is, cp_name, cp_choice, cp_seq, is_choice, is_seq, rest_done, rest_next, Listed, listed_done, listed_next, Mixed, text_alone, text_star, text_names, ContentSpec, empty, mixed, children_choice, children_seq, Model}
use Rattle.grammar.proofs.Tokens.{start_inside}

-- a byte of a run
run_at : {p : ℕ → Bool} {t : List ℕ} {i j : ℕ} → While p t i j → (m : ℕ) → i ≤ m → m < j → p (get_or t m 0) ≡ true
run_at stop m a b = absurd (omega arith)
run_at {p} {t} (on {i = i} e r) m a b = ⊎_elim (λ h. run_at r m (omega arith) b) (λ h. let z : i ≡ m = omega arith in subst (λ (x : ℕ). p (get_or t x 0) ≡ true) z e) (order i m)

first_allowed : (m b : ℕ) → m ≡ 0 → start b ≡ true → allowed m b ≡ true
first_allowed m b h e = grind (arith, nat_tests)

later_allowed : (m b : ℕ) → 0 < m → inner b ≡ true → allowed m b ≡ true
later_allowed m b h e = grind (arith, nat_tests)

is_name : (t : List ℕ) (i k : ℕ) → Name t 32 i k → IsName (slice t i k)
is_name t i k nm =
    let on' : i + 1 ≤ k = while_le nm.later in
    let inside : k ≤ length t = run_inside inner t refl nm.later (omega (arith, start_inside t i nm.first)) in
    let long : length (slice t i k) ≡ k - i = length-take-le (k - i) (drop i t) (omega (arith, length-drop i t)) in
    let at : (m : ℕ) → m < k - i → get_or (slice t i k) m 0 ≡ get_or t (i + m) 0 = λ m h. get_or-take (k - i) (drop i t) m 0 h ∙ get_or-drop i t m 0 in (
      omega arith,
      omega (arith, nm.short),
      λ m h.
          let l : m < k - i = omega arith in
          ⊎_elim
          (λ z. later_allowed m (get_or (slice t i k) m 0) z (ap inner (at m l) ∙ run_at nm.later (i + m) (omega arith) (omega arith)))
          (λ z. let zero' : m ≡ 0 = omega arith in let here : i + m ≡ i = omega arith in first_allowed m (get_or (slice t i k) m 0) zero' (ap start (at m l ∙ ap (λ (x : ℕ). get_or t x 0) here) ∙ nm.first))
          (order 0 m),
    )

names_is : {t : List ℕ} {s : Sym} {d i j : ℕ} {w : List ℕ} {ns : List (List ℕ)} → Is t 32 s d i j w ns → AllByRecursion IsName ns
names_is {t} (cp_name {i = i} {k = k} nm m) = (is_name t i k nm, tt)
names_is (cp_choice r m) = names_is r
names_is (cp_seq r m) = names_is r
names_is (is_choice {ns = ns} {ms = ms} br de a p u h q) = All-append IsName ns ms (names_is p) (names_is q)
names_is (is_seq {ns = ns} {ms = ms} br de a p q) = All-append IsName ns ms (names_is p) (names_is q)
names_is (rest_done a h) = tt
names_is (rest_next {ns = ns} {ms = ms} a h u p q) = All-append IsName ns ms (names_is p) (names_is q)

names_listed : {t : List ℕ} {i j : ℕ} {v : List ℕ} {ms : List (List ℕ)} → Listed t 32 i j v ms → AllByRecursion IsName ms
names_listed (listed_done a h) = tt
names_listed {t} (listed_next {b = b} {k = k} a h u nm q) = (is_name t b k nm, names_listed q)

names_mixed : {t : List ℕ} {i j : ℕ} {w : List ℕ} {ns : List (List ℕ)} → Mixed t 32 i j w ns → AllByRecursion IsName ns
names_mixed (text_alone a b c d e) = tt
names_mixed (text_star a b c d e f) = tt
names_mixed {t} (text_names {x = x} {k = k} a b c d e f nm q h) = (is_name t x k nm, names_listed q)

names_spec : {t : List ℕ} {d i j : ℕ} {w : List ℕ} {ns : List (List ℕ)} → ContentSpec t 32 d i j w ns → AllByRecursion IsName ns
names_spec (empty e) = tt
names_spec (mixed m) = names_mixed m
names_spec (children_choice r m) = names_is r
names_spec (children_seq r m) = names_is r

pub names_are : {t : List ℕ} {d : ℕ} {w : List ℕ} {ns : List (List ℕ)} → Model t 32 d w ns → AllByRecursion IsName ns
names_are m = names_spec m.spec
