-- Where codes build nothing, they fail at their first fault.
use Rattle.std.proofs.Common.{◌≡◌, ℕ, zero, suc, ◌+◌, ◌-◌, ◌<◌, ◌≤◌, Bool, true, false, eqb, List, [], ◌∷◌, ◌++◌, length, take, sym, refl, ap, ◌∙◌, subst, inl, inr, append_assoc, append-nil, arith}
use Rattle.std.proofs.lemmas.Bool.{eqb-true, cases_lt}
use Rattle.codes.specs.Tree.{Tree, empty, leaf, then, postfix, leaves}
use Rattle.codes.specs.Build.{Next, goes, stops, Built, model, fault, step, all_used, finish, after, build_on, build}
use Rattle.codes.specs.Checked.{above, CodesOf, Begins, FirstFault}
use Rattle.codes.specs.Theorems.{Building}
use Rattle.codes.proofs.Numbers.{above_push}
use Rattle.codes.proofs.Building.{codes_build, written, seen, NextOk, step_ok}

-- the parts of a stack are joined by `then`
pub record Joins (e : Tree ℕ) (s : List (Tree ℕ)) : Type 0 where
  pub rest : List ℕ
  pub tree : Tree ℕ
  pub codes : written (e ∷ s) ++ rest ≡ postfix tree
  pub places : leaves tree ≡ seen (e ∷ s)

joins : (e : Tree ℕ) (s : List (Tree ℕ)) → Joins e s
joins e [] = record { rest = []; tree = e; codes = append-nil (postfix e); places = refl }
joins e (l ∷ s) =
    let j = joins (then l e) s in
    record {
      rest = 2 ∷ j.rest;
      tree = j.tree;
      codes = simp append_assoc (simp append_assoc at j.codes);
      places = j.places ∙ sym (append_assoc (seen s) (leaves l) (leaves e));
    }

-- a stack with u symbols used is completed by the k symbols that are missing, each with code 1, and by `then`
completed : (k n u : ℕ) (e : Tree ℕ) (s : List (Tree ℕ)) → n ≡ u + k → seen (e ∷ s) ≡ above 0 u → Begins n (written (e ∷ s))
completed zero n u e s q h =
    let j = joins e s in
    let z : u ≡ n = omega arith in
    (j.rest, j.tree, record { codes = j.codes; places = j.places ∙ h ∙ ap (above 0) z })
completed (suc k) n u e s q h =
    let z : u + 1 ≡ 0 + u + 1 = omega arith in
    let more : seen (e ∷ s) ++ ((u + 1) ∷ []) ≡ above 0 (u + 1) =
    ap (λ (t : List ℕ). t ++ ((u + 1) ∷ [])) h ∙ ap (λ (x : ℕ). above 0 u ++ (x ∷ [])) z ∙ above_push 0 u in
    let b = completed k n (u + 1) (leaf (u + 1)) (e ∷ s) (omega arith) more in
    (1 ∷ b.0, b.1, record { codes = sym (append_assoc (written (e ∷ s)) (1 ∷ []) b.0) ∙ b.2.codes; places = b.2.places })

-- code 0 first, so that there is a part to join
completes : (n u : ℕ) (s : List (Tree ℕ)) → u ≤ n → seen s ≡ above 0 u → Begins n (written s)
completes n u s h e =
    let b = completed (n - u) n u empty s (omega arith) (append-nil (seen s) ∙ e) in
    (0 ∷ b.0, b.1, record { codes = sym (append_assoc (written s) (0 ∷ []) b.0) ∙ b.2.codes; places = b.2.places })

-- codes on the stack s fail at j, counted from i
pub record Stopped (n i : ℕ) (s : List (Tree ℕ)) (u : ℕ) (cs : List ℕ) (j : ℕ) : Type 0 where
  pub low : i ≤ j
  pub high : j ≤ i + length cs
  pub begins : Begins n (written s ++ take (j - i) cs)
  pub stays : (k : ℕ) (rest : List ℕ) → k ≤ length cs → j < i + k → build_on n i s u (take k cs ++ rest) ≡ fault j

abbrev pub Tells : ℕ → ℕ → List (Tree ℕ) → ℕ → List ℕ → Built → Type 0
Tells n i s u cs (model e) = CodesOf n (written s ++ cs) e
Tells n i s u cs (fault j) = Stopped n i s u cs j

-- at the end of the codes
end_stops : (n i u : ℕ) (s : List (Tree ℕ)) → u ≤ n → seen s ≡ above 0 u → Stopped n i s u [] i
end_stops n i u s h e =
    let c = completes n u s h e in
    let z : 0 ≡ i - i = omega arith in
    record {
      low = omega arith;
      high = omega arith;
      begins = subst (λ (k : ℕ). Begins n (written s ++ take k [])) z (rw (append-nil (written s)) c);
      stays = λ k rest a b. absurd (omega arith);
    }

end_used : (n i u : ℕ) (e : Tree ℕ) (b : Bool) → eqb u n ≡ b → u ≤ n → leaves e ≡ above 0 u → Tells n i (e ∷ []) u [] (all_used b i e)
end_used n i u e true q h k = record { codes = append-nil (postfix e); places = k ∙ ap (above 0) (eqb-true u n q) }
end_used n i u e false q h k = end_stops n i u (e ∷ []) h k

end_tells : (n i u : ℕ) (s : List (Tree ℕ)) → u ≤ n → seen s ≡ above 0 u → Tells n i s u [] (finish n i s u)
end_tells n i u [] h k = end_stops n i u [] h k
end_tells n i u (e ∷ []) h k = end_used n i u e (eqb u n) refl h k
end_tells n i u (e ∷ (f ∷ s)) h k = end_stops n i u (e ∷ (f ∷ s)) h k

-- at a code that stops
module _ (n i u c : ℕ) (s : List (Tree ℕ)) (cs : List ℕ) where
  stop_stays : step n c s u ≡ stops → (k : ℕ) (rest : List ℕ) → i < i + k → build_on n i s u (take k (c ∷ cs) ++ rest) ≡ fault i
  stop_stays q zero rest h = absurd (omega arith)
  stop_stays q (suc k) rest h = ap (after i (λ t m. build_on n (i + 1) t m (take k cs ++ rest))) q

  stop_tells : step n c s u ≡ stops → u ≤ n → seen s ≡ above 0 u → Stopped n i s u (c ∷ cs) i
  stop_tells q h e =
      let b = completes n u s h e in
      let z : 0 ≡ i - i = omega arith in
      record {
        low = omega arith;
        high = omega arith;
        begins = subst (λ (k : ℕ). Begins n (written s ++ take k (c ∷ cs))) z (rw (append-nil (written s)) b);
        stays = λ k rest a b. stop_stays q k rest b;
      }

  -- at a code that goes on
  module _ (t : List (Tree ℕ)) (m : ℕ) (q : step n c s u ≡ goes t m) (w : written t ≡ written s ++ (c ∷ [])) where
    on_written : (ds : List ℕ) → written t ++ ds ≡ written s ++ (c ∷ ds)
    on_written ds = ap (λ (l : List ℕ). l ++ ds) w ∙ append_assoc (written s) (c ∷ []) ds

    on_stays : (j : ℕ) → Stopped n (i + 1) t m cs j → (k : ℕ) (rest : List ℕ) → k ≤ length (c ∷ cs) → j < i + k
        → build_on n i s u (take k (c ∷ cs) ++ rest) ≡ fault j
    on_stays j p zero rest a b = absurd (omega (arith, p.low))
    on_stays j p (suc k) rest a b =
        ap (after i (λ t m. build_on n (i + 1) t m (take k cs ++ rest))) q ∙ p.stays k rest (omega arith) (omega arith)

    on_tells : (b : Built) → Tells n (i + 1) t m cs b → Tells n i s u (c ∷ cs) b
    on_tells (model e) p = record { codes = sym (on_written cs) ∙ p.codes; places = p.places }
    on_tells (fault j) p =
        let z : suc (j - (i + 1)) ≡ j - i = omega (arith, p.low) in
        record {
          low = omega (arith, p.low);
          high = omega (arith, p.high);
          begins = subst (λ (k : ℕ). Begins n (written s ++ take k (c ∷ cs))) z (subst (Begins n) (on_written (take (j - (i + 1)) cs)) p.begins);
          stays = on_stays j p;
        }

  after_tells : (x : Next) → step n c s u ≡ x → NextOk n c s x → u ≤ n → seen s ≡ above 0 u
      → ((t : List (Tree ℕ)) (m : ℕ) → m ≤ n → seen t ≡ above 0 m → Tells n (i + 1) t m cs (build_on n (i + 1) t m cs))
      → Tells n i s u (c ∷ cs) (after i (λ t m. build_on n (i + 1) t m cs) x)
  after_tells (goes t m) q o h e f = on_tells t m q o.0 (build_on n (i + 1) t m cs) (f t m o.2 o.1)
  after_tells stops q o h e f = stop_tells q h e

tells : (n i u : ℕ) (s : List (Tree ℕ)) (cs : List ℕ) → u ≤ n → seen s ≡ above 0 u → Tells n i s u cs (build_on n i s u cs)
tells n i u s [] h e = end_tells n i u s h e
tells n i u s (c ∷ cs) h e =
    after_tells n i u c s cs (step n c s u) refl (step_ok n c s u e h) h e (λ t m k f. tells n (i + 1) m t cs k f)

pub build_codes : {n : ℕ} {cs : List ℕ} {e : Tree ℕ} → build n cs ≡ model e → CodesOf n cs e
build_codes {n} {cs} {e} q = subst (Tells n 0 [] 0 cs) q (tells n 0 0 [] cs (omega arith) refl)

not_both : (b : Built) (e : Tree ℕ) (i : ℕ) → b ≡ model e → b ≡ fault i → ⊥
not_both b e i p q = let z : ◌≡◌ {A = ℕ} 0 1 = cc in omega arith

pub fault_first : {n : ℕ} {cs : List ℕ} {i : ℕ} → build n cs ≡ fault i → FirstFault n cs i
fault_first {n} {cs} {i} q =
    let p : Stopped n 0 [] 0 cs i = subst (Tells n 0 [] 0 cs) q (tells n 0 0 [] cs (omega arith) refl) in
    let z : i - 0 ≡ i = omega arith in
    record {
      none = λ e c. not_both (build n cs) e i (codes_build c) q;
      within = omega (arith, p.high);
      begins = subst (λ (k : ℕ). Begins n (take k cs)) z p.begins;
      most = λ k h b. elim (cases_lt i k) [
        | inl l ↦ absurd (not_both (build n (take k cs ++ b.0)) b.1 i (codes_build b.2) (p.stays k b.0 h (omega arith)))
        | inr l ↦ l
      ];
    }

-- the first fault is one
pub one_fault : {n : ℕ} {cs : List ℕ} {i j : ℕ} → FirstFault n cs i → FirstFault n cs j → i ≡ j
one_fault {n} {cs} {i} {j} p q =
    let a = q.most i p.within p.begins in
    let b = p.most j q.within q.begins in
    omega arith

pub first_fault : {n : ℕ} {cs : List ℕ} {i : ℕ} → FirstFault n cs i → build n cs ≡ fault i
first_fault {n} {cs} {i} p = «by» (build n cs) refl
  where
    «by» : (b : Built) → build n cs ≡ b → b ≡ fault i
    «by» (model e) q = absurd (p.none e (build_codes q))
    «by» (fault j) q = ap fault (one_fault (fault_first q) p)

pub building : Building
building = record {
  builds = λ n cs e. codes_build;
  built = λ n cs e. build_codes;
  fails = λ n cs i. first_fault;
  failed = λ n cs i. fault_first;
}
