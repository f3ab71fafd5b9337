-- A word read symbol by symbol, from the start through positions: where the model is not ambiguous, one way at most.
use Rattle.std.proofs.Common.{◌≡◌, ℕ, zero, suc, ◌+◌, ◌-◌, ◌<◌, ◌≤◌, Bool, true, List, [], ◌∷◌, ◌++◌, length, get_or, take, drop, sym, refl, ap, ◌∙◌, subst, inl, inr, zero-add, arith}
use Rattle.std.proofs.lemmas.List.{take_more, take_all}
use Rattle.std.proofs.lemmas.Bool.{cases_eq, cases_lt}
use Rattle.symbols.specs.Kinds.{KindLaws}
use Rattle.codes.specs.Checked.{WellFormed, CodesOf}
use Rattle.language.specs.Words.{Numbered}
use Rattle.language.specs.Meaning.{Model, tree_of, body, Formed, symbol_at, spelled, like, Spells, Word, Beginning, Longest, Unambiguous}
use Rattle.language.proofs.Numbering.{Spans, numbered_spans}
use Rattle.language.proofs.Told.{tree_of_codes}
use Rattle.language.proofs.Chains.{Step, End, Chain, step_range, marked_chain, chain_marked, chain_begins, steps_part}
use Rattle.language.proofs.Symbols.{like_agree, spells_join, Within, within_right, spells_own}

-- the tree that codes build is the one whose codes they are
pub tree_codes : (n : ℕ) (cs : List ℕ) → WellFormed n cs → CodesOf n cs (tree_of n cs)
tree_codes n cs w = subst (CodesOf n cs) (sym (tree_of_codes n cs w.tree w.codes)) w.codes

split_at : {S : Type 0} (w : List S) (i j : ℕ) (a : S) → i < length w → a ≡ get_or w i a → take (suc (i + j)) w ≡ take i w ++ a ∷ take j (drop (suc i) w)
split_at [] i j a h e = absurd (omega arith)
split_at (b ∷ w) zero j a h e = ap (λ n. b ∷ take n w) (zero-add j) ∙ ap (λ c. c ∷ take j w) (sym e)
split_at (b ∷ w) (suc i) j a h e =
    let n : suc i + j ≡ suc (i + j) = omega arith in
    ap (λ n. b ∷ take n w) n ∙ ap (λ l. b ∷ l) (split_at w i j a (omega arith) e)

module _ {S : Type 0} (same : S → S → Bool) (m : Model S) where
  -- position y may come after state x with the symbol a
  abbrev pub Goes : ℕ → S → ℕ → Type 0
  Goes x a y = Step (body m) x y × (like same (symbol_at m.symbols y) a ≡ true)

  -- the word s leads from state x to state z
  abbrev pub Leads : ℕ → List S → ℕ → Type 0
  Leads x [] z = x ≡ z
  Leads x (a ∷ s) z = (y : ℕ) × Goes x a y × Leads y s z

  pub leads_more : (s : List S) (a : S) (x y z : ℕ) → Leads x s y → Goes y a z → Leads x (s ++ (a ∷ [])) z
  leads_more [] a x y z l g = (z, subst (λ i. Goes i a z) (sym l) g, refl)
  leads_more (b ∷ s) a x y z l g = (l.0, l.1, leads_more s a l.0 y z l.2 g)

  leads_split : (s t : List S) (x z : ℕ) → Leads x (s ++ t) z → (y : ℕ) × Leads x s y × Leads y t z
  leads_split [] t x z l = (x, refl, l)
  leads_split (a ∷ s) t x z l = let r = leads_split s t l.0 z l.2 in (r.0, (l.0, l.1, r.1), r.2)

  chain_leads : (w : List ℕ) (s : List S) (x z : ℕ) → Chain (body m) x w z → Spells same m.symbols w s → Leads x s z
  chain_leads [] [] x z c p = c
  chain_leads [] (a ∷ s) x z c p = absurd p
  chain_leads (y ∷ w) [] x z c p = absurd p
  chain_leads (y ∷ w) (a ∷ s) x z c p = (y, (c.0, p.0), chain_leads w s y z c.1 p.1)

  leads_chain : (s : List S) (x z : ℕ) → Leads x s z → (w : List ℕ) × Chain (body m) x w z × Spells same m.symbols w s
  leads_chain [] x z l = ([], l, tt)
  leads_chain (a ∷ s) x z l = let c = leads_chain s l.0 z l.2 in (l.0 ∷ c.0, (l.1.0, c.1), (l.1.1, c.2))

  module _ (w : Formed m) where
    pub numbered : Numbered (length m.symbols) (body m)
    numbered = (tree_codes (length m.symbols) m.codes w).places

    pub body_spans : Spans (body m) 0 (length m.symbols)
    body_spans = numbered_spans (length m.symbols) (body m) numbered

    pub goes_within : (x y : ℕ) (a : S) → Goes x a y → y ≤ length m.symbols
    goes_within x y a g = (step_range (body m) (length m.symbols) body_spans x y g.0).1

    -- the words of the model are those that lead from the start to where a word may end
    pub word_leads : (s : List S) → Word same m s → (z : ℕ) × Leads 0 s z × End (body m) z
    word_leads s d =
        let c = marked_chain (body m) (length m.symbols) body_spans d.0 d.1 in
        (c.0, chain_leads d.0 s 0 c.0 c.1 d.2, c.2)

    pub leads_word : (s : List S) (z : ℕ) → Leads 0 s z → End (body m) z → Word same m s
    leads_word s z l h =
        let c = leads_chain s 0 z l in
        (c.0, chain_marked (body m) (length m.symbols) body_spans c.0 z c.1 h, c.2)

    chain_all : (u : List ℕ) (x z : ℕ) → Chain (body m) x u z → Within same (length m.symbols) u
    chain_all [] x z c = tt
    chain_all (y ∷ u) x z c = (step_range (body m) (length m.symbols) body_spans x y c.0, chain_all u y z c.1)

    -- what leads anywhere from the start begins a word, and only that
    pub leads_begins : ((a : S) → same a a ≡ true) → (s : List S) (z : ℕ) → Leads 0 s z → Beginning same m s
    leads_begins own s z l =
        let n = length m.symbols in
        let c = leads_chain s 0 z l in
        let b = chain_begins (body m) n body_spans c.0 z c.1 in
        let d = marked_chain (body m) n body_spans (c.0 ++ b.0) b.1 in
        let p = spells_own same own m.symbols b.0 (within_right same n c.0 b.0 (chain_all (c.0 ++ b.0) 0 d.0 d.1)) in
        (spelled m.symbols b.0, (c.0 ++ b.0, b.1, spells_join same m.symbols c.0 b.0 s (spelled m.symbols b.0) c.2 p))

    pub begins_leads : (s : List S) → Beginning same m s → (z : ℕ) × Leads 0 s z
    begins_leads s b =
        let l = word_leads (s ++ b.0) b.1 in
        let p = leads_split s b.0 0 l.0 l.1 in
        (p.0, p.1)

    module _ {foreign : S → Bool} (laws : KindLaws same foreign) (clear : Unambiguous same m) where
      -- at most one position may come next
      pub one_next : (x y z : ℕ) (a : S) → Goes x a y → Goes x a z → y ≡ z
      one_next x y z a g h =
          elim (cases_eq y z) [
            | inl e ↦ e
            | inr ne ↦ absurd (clear y z (ne, like_agree same laws (symbol_at m.symbols y) (symbol_at m.symbols z) a g.1 h.1, steps_part (body m) (length m.symbols) body_spans x y z g.0 h.0))
          ]

      leads_one : (s : List S) (x y z : ℕ) → Leads x s y → Leads x s z → y ≡ z
      leads_one [] x y z l k = sym l ∙ k
      leads_one (a ∷ s) x y z l k =
          let e = one_next x k.0 l.0 a k.1 l.1 in
          leads_one s l.0 y z l.2 (subst (λ i. Leads i s z) e k.2)

      -- a state where no word may end, or that the next symbol does not lead on from
      pub ends_not : (s : List S) (x : ℕ) → Leads 0 s x → (End (body m) x → ⊥) → Word same m s → ⊥
      ends_not s x l h d = let k = word_leads s d in h (subst (End (body m)) (leads_one s 0 k.0 x k.1 l) k.2)

      stuck : (s v : List S) (a : S) (x z : ℕ) → Leads 0 s x → ((y : ℕ) → Goes x a y → ⊥) → Leads 0 (s ++ (a ∷ v)) z → ⊥
      stuck s v a x z l none k =
          let p = leads_split s (a ∷ v) 0 z k in
          let e = leads_one s 0 p.0 x p.1 l in
          none p.2.0 (subst (λ i. Goes i a p.2.0) e p.2.1)

      stuck_past : (s : List S) (i x : ℕ) (a : S) → i < length s → a ≡ get_or s i a → Leads 0 (take i s) x → ((y : ℕ) → Goes x a y → ⊥)
          → (k z : ℕ) → i < k → k ≤ length s → Leads 0 (take k s) z → ⊥
      stuck_past s i x a h e l none k z lt le r =
          let d : k ≡ suc (i + (k - i - 1)) = omega arith in
          stuck (take i s) (take (k - i - 1) (drop (suc i) s)) a x z l none (subst (λ t. Leads 0 t z) (ap (λ j. take j s) d ∙ split_at s i (k - i - 1) a h e) r)

      pub stuck_longest : (s : List S) (i x : ℕ) (a : S) → i < length s → a ≡ get_or s i a → Leads 0 (take i s) x → ((y : ℕ) → Goes x a y → ⊥)
          → (Word same m s → ⊥) × Longest same m s i
      stuck_longest s i x a h e l none = (
        (λ d. let k = word_leads s d in
            stuck_past s i x a h e l none (length s) k.0 h (omega arith) (subst (λ t. Leads 0 t k.0) (sym (take_all (length s) s (omega arith))) k.1)),
        record {
          within = omega arith;
          begins = leads_begins laws.reflexive (take i s) x l;
          most = λ k le b. elim (cases_lt i k) [
            | inl lt ↦ (let r = begins_leads (take k s) b in absurd (stuck_past s i x a h e l none k r.0 lt le r.1))
            | inr ge ↦ ge
          ];
        },
      )

      pub whole_longest : (s : List S) (x : ℕ) → Leads 0 s x → Longest same m s (length s)
      whole_longest s x l = record {
        within = omega arith;
        begins = leads_begins laws.reflexive (take (length s) s) x (subst (λ t. Leads 0 t x) (sym (take_all (length s) s (omega arith))) l);
        most = λ k le b. le;
      }

  pub leads_on : (s : List S) (i x y : ℕ) (a : S) → i < length s → a ≡ get_or s i a → Leads 0 (take i s) x → Goes x a y → Leads 0 (take (i + 1) s) y
  leads_on s i x y a h e l g =
      subst (λ t. Leads 0 t y) (sym (take_more s i a h ∙ ap (λ b. take i s ++ b ∷ []) (sym e))) (leads_more (take i s) a 0 x y l g)

  pub leads_all : (s : List S) (i x : ℕ) → length s ≤ i → Leads 0 (take i s) x → Leads 0 s x
  leads_all s i x h l = subst (λ t. Leads 0 t x) (take_all i s h) l
