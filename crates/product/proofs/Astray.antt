-- The wanted words of the product graph are the marked words of the model whose symbols the reader does not take.
use Rattle.std.proofs.Common.{◌≡◌, ℕ, ◌+◌, ◌-◌, ◌*◌, ◌/◌, ◌%◌, ◌<◌, ◌≤◌, Bool, true, false, List, [], ◌∷◌, length, Some, sym, refl, ap, ◌∙◌, subst, inl, inr, arith}
use lib.Arith.{digits_div, digits_mod}
use Rattle.std.proofs.lemmas.Bool.{and_parts, and_from, le-leb, eq-eqb, cases_Bool, both_ways, cond-true, not-true, not_from_false}
use Rattle.symbols.specs.Kinds.{KindLaws}
use Rattle.language.specs.Words.{Expr, Marked}
use Rattle.language.specs.Meaning.{Model, body, Formed, symbol_at, like, spelled, Word}
use Rattle.language.proofs.Chains.{Step, Chain, step_range, chain_within, marked_chain, chain_marked}
use Rattle.language.proofs.Symbols.{symbol_some, Within}
use Rattle.language.proofs.Numbering.{Spans}
use Rattle.language.proofs.Reading.{body_spans}
use Rattle.models.specs.declared.tables.Sets.{Sets}
use Rattle.models.specs.Bitsets.{Bit}
use Rattle.models.specs.TablesOf.{TablesOf}
use Rattle.models.specs.Stepping.{set_after, can_end}
use Rattle.models.proofs.Automata.{may_goes, goes_may, ends_end, end_ends}
use Rattle.tables.specs.Tables.{Table, Sound, Alike, takes}
use Rattle.tables.specs.Words.{Takes}
use Rattle.tables.proofs.Leading.{takes_decides}
use Rattle.walk.specs.Order.{Word as Labels}
use Rattle.walk.specs.Graph.{LabelledGraph, Leads, WantedWord}
use Rattle.walk.specs.Graph.Leads.{stay as at_rest, step as along}
use Rattle.models.specs.Stepping.{positions, can_follow}
use Rattle.product.specs.Pairs.{after, node, product}
use Rattle.product.specs.PairsSound.{goes_parts, follows_parts, after_within}
use Rattle.product.proofs.Readings.{run, run_ends, alike_ends}

module _ {S : Type 0} (same : S → S → Bool) (m : Model S) (F : Formed m) where
  chain_all : (w : List ℕ) (x z : ℕ) → Chain (body m) x w z → Within same (length m.symbols) w
  chain_all [] x z c = tt
  chain_all (y ∷ w) x z c = (step_range (body m) (length m.symbols) (body_spans same m F) x y c.0, chain_all w y z c.1)

  -- the positions of a marked word have symbols
  pub marked_within : (w : List ℕ) → Marked (body m) w → Within same (length m.symbols) w
  marked_within w d = let c = marked_chain (body m) (length m.symbols) (body_spans same m F) w d in chain_all w 0 c.0 c.1

module _ {S : Type 0} (same : S → S → Bool) {foreign : S → Bool} (laws : KindLaws same foreign) (s : Sets) (rows : List ℕ) (m : Model S) (T : TablesOf same s rows m.symbols m) (t : Table S) (H : Sound t) where
  abbrev e : Expr
  e = body m

  abbrev n : ℕ
  n = length m.symbols

  abbrev N : ℕ
  N = positions m.symbols

  abbrev W : ℕ
  W = t.states + 1

  abbrev G : LabelledGraph
  G = product s rows m.symbols t

  full : N ≡ n
  full = omega (arith, T.formed.few)

  spans : Spans e 0 n
  spans = body_spans same m T.formed

  -- a position may follow by the tables exactly when it may in the model
  follows_step : (x y : ℕ) → x ≤ n → can_follow s rows N x y ≡ true → Step e x y
  follows_step x y h f =
      let p = follows_parts s rows N x y f in
      let le : y ≤ n = omega (arith, p.most, full) in
      let a = symbol_some m.symbols y p.some le in
      let l : like same (symbol_at m.symbols y) a.0 ≡ true = ap (λ o. like same o a.0) a.1 ∙ laws.reflexive a.0 in
      let b : Bit (set_after s rows n x) (y - 1) = subst (λ i. Bit (set_after s rows i x) (y - 1)) full p.set in
      (may_goes same s rows m.symbols m T x y a.0 h (b, l)).0

  step_follows : (x y : ℕ) → x ≤ n → Step e x y → can_follow s rows N x y ≡ true
  step_follows x y h d =
      let r = step_range e n spans x y d in
      let a = symbol_some m.symbols y r.0 r.1 in
      let l : like same (symbol_at m.symbols y) a.0 ≡ true = ap (λ o. like same o a.0) a.1 ∙ laws.reflexive a.0 in
      let b = (goes_may same s rows m.symbols m T x y a.0 h (d, l)).0 in
      let c : Bit (set_after s rows N x) (y - 1) = subst (λ i. Bit (set_after s rows i x) (y - 1)) (sym full) b in
      let le : y ≤ N = omega (arith, r.1, full) in
      and_from _ _ (le-leb 1 y r.0) (and_from _ _ (le-leb y N le) (eq-eqb _ 1 c))

  abbrev ran : ℕ → List ℕ → ℕ
  ran y w = run t H m.symbols y w

  -- what leads from a pair is a chain of positions, with the reader beside it
  forth : {v z : ℕ} {w : Labels} (x y : ℕ) → x ≤ n → y < W → v ≡ node t x y → Leads G v w z
      → (u : ℕ) × Chain e x w u × (z ≡ node t u (ran y w)) × (ran y w < W)
  forth x y h p q at_rest = (x, refl, q, p)
  forth x y h p q (along {x = v} {l} {y = v'} {z} {w} g r) =
      let a : v / W ≡ x = ap (λ i. i / W) q ∙ digits_div x p in
      let b : v % W ≡ y = ap (λ i. i % W) q ∙ digits_mod x p in
      let i = goes_parts _ _ _ g in
      let f : Step e x l = follows_step x l h (ap (λ j. can_follow s rows N j l) (sym a) ∙ i.0) in
      let u : v' ≡ node t l (after t y (symbol_at m.symbols l)) = sym i.1 ∙ ap (λ j. node t l (after t j (symbol_at m.symbols l))) b in
      let d = forth l (after t y (symbol_at m.symbols l)) (step_range e n spans x l f).1 (after_within t H y (symbol_at m.symbols l)) u r in
      (d.0, (f, d.1), d.2, d.3)

  back : (w : Labels) (x y u : ℕ) → x ≤ n → y < W → Chain e x w u → Leads G (node t x y) w (node t u (ran y w)) × (ran y w < W)
  back [] x y u h p c = (subst (λ i. Leads G (node t x y) [] (node t i y)) c at_rest, p)
  back (l ∷ w) x y u h p c =
      let d = back w l (after t y (symbol_at m.symbols l)) u (step_range e n spans x l c.0).1 (after_within t H y (symbol_at m.symbols l)) c.1 in
      let a : (x * W + y) / W ≡ x = digits_div x p in
      let b : (x * W + y) % W ≡ y = digits_mod x p in
      let g : G.goes (node t x y) l ≡ Some (node t l (after t y (symbol_at m.symbols l))) = rw (a, b) (cond-true (can_follow s rows N x l) _ _ (step_follows x l h c.0)) in
      (along g d.0, d.1)

  start_within : t.start < W
  start_within = omega (arith, H.starts)

  ran_takes : (w : Labels) (u : ℕ) → Chain e 0 w u → t.ending (ran t.start w) ≡ takes t (spelled m.symbols w)
  ran_takes w u c = run_ends t H m.symbols same w t.start (chain_all same m T.formed w 0 u c)

  pub wanted_astray : (w : Labels) → WantedWord G w → Marked e w × (Takes t (spelled m.symbols w) → ⊥)
  wanted_astray w d =
      let h = forth 0 t.start (omega arith) start_within (omega arith) d.1 in
      let a : d.0 / W ≡ h.0 = ap (λ i. i / W) h.2 ∙ digits_div h.0 h.3 in
      let b : d.0 % W ≡ ran t.start w = ap (λ i. i % W) h.2 ∙ digits_mod h.0 h.3 in
      let le : h.0 ≤ n = chain_within e n spans w 0 h.0 (omega arith) h.1 in
      let c = and_parts _ _ (and_parts _ _ d.2).1 in
      let z : takes t (spelled m.symbols w) ≡ false = sym (ran_takes w h.0 h.1) ∙ ap t.ending (sym b) ∙ not-true _ c.1 in (
        chain_marked e n spans w h.0 h.1 (ends_end same s rows m.symbols m T h.0 le (ap (can_end s) (sym a) ∙ c.0)),
        λ q. both_ways _ z ((takes_decides t (spelled m.symbols w)).1 q),
      )

  pub astray_wanted : (w : Labels) → Marked e w → (Takes t (spelled m.symbols w) → ⊥) → WantedWord G w
  astray_wanted w d f =
      let c = marked_chain e n spans w d in
      let u = c.0 in
      let y = ran t.start w in
      let h = back w 0 t.start u (omega arith) start_within c.1 in
      let le : u ≤ n = chain_within e n spans w 0 u (omega arith) c.1 in
      let few : u ≤ N = omega (arith, le, full) in
      let z : takes t (spelled m.symbols w) ≡ false = (elim (cases_Bool (takes t (spelled m.symbols w))) [ inl q ↦ absurd (f ((takes_decides t (spelled m.symbols w)).0 q)) | inr q ↦ q ]) in
      let a : (u * W + y) / W ≡ u = digits_div u h.1 in
      let b : (u * W + y) % W ≡ y = digits_mod u h.1 in
      let o : 0 * W + t.start ≡ t.start = omega arith in
      let end = end_ends same s rows m.symbols m T u le c.2 in
      (node t u y, rw o at h.0, rw (a, b) (and_from _ _ (le-leb u N few) (and_from _ _ end (not_from_false _ (ran_takes w u c.1 ∙ z)))))

  -- where no word is wanted, every word of the model is taken
  pub all_taken : Alike same t → ((w : Labels) → WantedWord G w → ⊥) → (v : List S) → Word same m v → Takes t v
  all_taken A none v d =
      let w = d.0 in
      elim (cases_Bool (takes t (spelled m.symbols w))) [
        | inl q ↦ (takes_decides t v).0 (sym (alike_ends same t A m.symbols w v t.start d.2) ∙ q)
        | inr q ↦ absurd (none w (astray_wanted w d.1 (λ r. both_ways _ q ((takes_decides t (spelled m.symbols w)).1 r))))
      ]

  pub size_is : (N + 1) * W ≡ (n + 1) * W
  size_is = ap (λ i. (i + 1) * W) full
