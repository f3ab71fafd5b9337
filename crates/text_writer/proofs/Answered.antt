-- The writer has one answer. Assumes nothing.
use Rattle.std.proofs.Common.{◌≡◌, ℕ, ◌<◌, ◌≤◌, List, [], ◌∷◌, ◌++◌, map, length, get_or, take, drop, Ok, Err, sym, ap, ◌∙◌, subst, inl, inr, arith}
use Rattle.std.specs.List.{All}
use Rattle.std.proofs.lemmas.Bool.{cases_lt}
use Rattle.std.proofs.lemmas.List.Elements.{All-nil, All-push, All-append, All-get_or}
use Rattle.faults.specs.declared.Fault.{Fault}
use Rattle.faults.specs.declared.Fault.TheVariants.{TooDeep, ShortList, Unwritable}
use Rattle.faults.specs.declared.Layer.TheVariants.{Text}
use Rattle.symbols.specs.Rule.{IsName}
use Rattle.symbols.specs.NameRows.{row_bytes}
use Rattle.codes.specs.Tree.{Tree, empty, leaf, then, either, maybe, many, some, postfix}
use Rattle.codes.specs.Checked as checked
use Rattle.codes.proofs.Answered.{one_refusal, not_refused}
use Rattle.codes.proofs.Shapes.{same_tree}
use Rattle.grammar.specs.Trees.{Solid, Plain}
use Rattle.text_writer.specs.Written.{written}
use Rattle.text_writer.specs.Levels.{level, Shallow, FirstDeep}
use Rattle.text_writer.specs.Writes.{FirstEmpty, NoneEmpty, FirstNoName, AllNames, Sayable, Refused, ill_formed, empty_part, no_name, too_deep, no_room, Wrote, OneAnswer}
use Rattle.text_writer.proofs.Trees.{Nonzero}

-- the least of its kind is one
least_one : (P : ℕ → Type 0) (i j : ℕ) → P i → P j → ((k : ℕ) → k < i → P k → ⊥) → ((k : ℕ) → k < j → P k → ⊥) → i ≡ j
least_one P i j p q f g = elim (cases_lt i j) [ inl h ↦ absurd (g i h p) | inr h ↦ under h ]
  where
    under : j ≤ i → i ≡ j
    under h = elim (cases_lt j i) [ inl k ↦ absurd (f j k q) | inr k ↦ omega arith ]

-- a tree without the empty word has no code 0
solid_codes : (x : Tree (List ℕ)) → Solid x → All Nonzero (postfix x)
solid_codes empty f = absurd f
solid_codes (leaf n) f = All-push Nonzero [] 1 (All-nil Nonzero) (λ e. omega arith)
solid_codes (then l r) f = All-append Nonzero (postfix l) (postfix r ++ (2 ∷ [])) (solid_codes l f.0) (All-push Nonzero (postfix r) 2 (solid_codes r f.1) (λ e. omega arith))
solid_codes (either l r) f = All-append Nonzero (postfix l) (postfix r ++ (3 ∷ [])) (solid_codes l f.0) (All-push Nonzero (postfix r) 3 (solid_codes r f.1) (λ e. omega arith))
solid_codes (maybe e) f = All-push Nonzero (postfix e) 4 (solid_codes e f) (λ e. omega arith)
solid_codes (many e) f = All-push Nonzero (postfix e) 5 (solid_codes e f) (λ e. omega arith)
solid_codes (some e) f = All-push Nonzero (postfix e) 6 (solid_codes e f) (λ e. omega arith)

plain_none : (x : Tree (List ℕ)) → Plain x → NoneEmpty (postfix x)
plain_none x (inl e) = inl (subst (λ (y : Tree (List ℕ)). length (postfix y) ≤ 1) (sym e) (omega arith))
plain_none x (inr f) = inr (λ k h. All-get_or Nonzero (postfix x) k 0 h (solid_codes x f))

not_empty : (cs : List ℕ) (i : ℕ) → FirstEmpty cs i → NoneEmpty cs → ⊥
not_empty cs i f (inl h) = omega (arith, f.others)
not_empty cs i f (inr h) = h i f.inside f.here

module _ (cs : List ℕ) (ns : List (List ℕ)) where
  none_of : (x : Tree (List ℕ)) → Sayable cs ns x → NoneEmpty cs
  none_of x s = subst NoneEmpty (sym s.codes) (plain_none x s.plain)

  one_tree : (x y : Tree (List ℕ)) → Sayable cs ns x → Sayable cs ns y → x ≡ y
  one_tree x y s u = same_tree x y (sym s.codes ∙ u.codes) (sym s.names ∙ u.names)

  -- a model that is refused before its text is made is not sayable
  ill_not : (f : Fault) → checked.Refused (length ns) cs f → checked.WellFormed (length ns) cs → ⊥
  ill_not f r w = not_refused (length ns) cs f w r

  noname_not : (i : ℕ) → FirstNoName ns i → AllNames ns → ⊥
  noname_not i f g = f.here (g i f.inside)

  same_noname : (i j : ℕ) → FirstNoName ns i → FirstNoName ns j → i ≡ j
  same_noname i j f g = least_one (λ k. IsName (get_or ns k []) → ⊥) i j f.here g.here (λ k h p. p (f.first k h)) (λ k h p. p (g.first k h))

  same_empty : (i j : ℕ) → FirstEmpty cs i → FirstEmpty cs j → i ≡ j
  same_empty i j f g = least_one (λ k. get_or cs k 0 ≡ 0) i j f.here g.here f.first g.first

  deep_not : (t : List ℕ) (k : ℕ) → FirstDeep t k → Shallow t → ⊥
  deep_not t k f h = omega (arith, f.deep, h k f.bracket)

  same_deep : (t : List ℕ) (i j : ℕ) → FirstDeep t i → FirstDeep t j → i ≡ j
  same_deep t i j f g =
      least_one (λ k. (get_or t k 0 ≡ 40) × (16 ≤ level 0 (take k t))) i j (f.bracket, f.deep) (g.bracket, g.deep)
      (λ k h p. omega (arith, f.first k h p.0, p.1)) (λ k h p. omega (arith, g.first k h p.0, p.1))

  one_refused : (cells : ℕ) (f g : Fault) → Refused cs ns cells f → Refused cs ns cells g → g ≡ f
  one_refused cells f g (ill_formed a) (ill_formed b) = one_refusal (length ns) cs g f b a
  one_refused cells f g (ill_formed a) (empty_part w e) = absurd (ill_not f a w)
  one_refused cells f g (ill_formed a) (no_name w e n) = absurd (ill_not f a w)
  one_refused cells f g (ill_formed a) (too_deep s d) = absurd (ill_not f a s.formed)
  one_refused cells f g (ill_formed a) (no_room s h e c) = absurd (ill_not f a s.formed)
  one_refused cells f g (empty_part w e) (ill_formed a) = absurd (ill_not g a w)
  one_refused cells f g (empty_part {i} w e) (empty_part {i = j} v d) = ap Unwritable (same_empty j i d e)
  one_refused cells f g (empty_part {i} w e) (no_name v d n) = absurd (not_empty cs i e d)
  one_refused cells f g (empty_part {i} w e) (too_deep {x} s d) = absurd (not_empty cs i e (none_of x s))
  one_refused cells f g (empty_part {i} w e) (no_room {x} s h q c) = absurd (not_empty cs i e (none_of x s))
  one_refused cells f g (no_name w e n) (ill_formed a) = absurd (ill_not g a w)
  one_refused cells f g (no_name w e n) (empty_part {i = j} v d) = absurd (not_empty cs j d e)
  one_refused cells f g (no_name {i} w e n) (no_name {i = j} v d m) = ap Unwritable (same_noname j i m n)
  one_refused cells f g (no_name {i} w e n) (too_deep s d) = absurd (noname_not i n s.named)
  one_refused cells f g (no_name {i} w e n) (no_room s h q c) = absurd (noname_not i n s.named)
  one_refused cells f g (too_deep s d) (ill_formed a) = absurd (ill_not g a s.formed)
  one_refused cells f g (too_deep {x} s d) (empty_part {i = j} v e) = absurd (not_empty cs j e (none_of x s))
  one_refused cells f g (too_deep s d) (no_name {i = j} v e n) = absurd (noname_not j n s.named)
  one_refused cells f g (too_deep {x} {k = i} s d) (too_deep {x = y} {k = j} u e) = ap TooDeep (same_deep (written x) j i (subst (λ (z : Tree (List ℕ)). FirstDeep (written z) j) (one_tree y x u s) e) d)
  one_refused cells f g (too_deep {x} {k = i} s d) (no_room {x = y} u h q c) = absurd (deep_not (written x) i d (subst (λ (z : Tree (List ℕ)). Shallow (written z)) (one_tree y x u s) h))
  one_refused cells f g (no_room s h q c) (ill_formed a) = absurd (ill_not g a s.formed)
  one_refused cells f g (no_room {x} s h q c) (empty_part {i = j} v e) = absurd (not_empty cs j e (none_of x s))
  one_refused cells f g (no_room s h q c) (no_name {i = j} v e n) = absurd (noname_not j n s.named)
  one_refused cells f g (no_room {x} s h q c) (too_deep {x = y} {k = j} u e) = absurd (deep_not (written x) j (subst (λ (z : Tree (List ℕ)). FirstDeep (written z) j) (one_tree y x u s) e) h)
  one_refused cells f g (no_room {x} s h q c) (no_room {x = y} u k p d) = ap (ShortList Text) (p ∙ ap (λ (z : Tree (List ℕ)). length (written z)) (one_tree y x u s) ∙ sym q)

  wrote_not : (out o : List ℕ) (n : ℕ) (f : Fault) → Wrote cs ns out n o → Refused cs ns (length out) f → ⊥
  wrote_not out o n f w (ill_formed a) = ill_not f a w.sayable.formed
  wrote_not out o n f w (empty_part {i} v e) = not_empty cs i e (none_of w.tree w.sayable)
  wrote_not out o n f w (no_name {i} v e m) = noname_not i m w.sayable.named
  wrote_not out o n f w (too_deep {x} {k} s d) = deep_not (written w.tree) k (subst (λ (z : Tree (List ℕ)). FirstDeep (written z) k) (one_tree x w.tree s w.sayable) d) w.shallow
  wrote_not out o n f w (no_room {x} {n = m} s h q c) =
      let e = ap (λ (z : Tree (List ℕ)). length (written z)) (one_tree x w.tree s w.sayable) in
      omega (arith, w.room, w.count)

  one_wrote : (out o o' : List ℕ) (n n' : ℕ) → Wrote cs ns out n o → Wrote cs ns out n' o' → (n' ≡ n) × (o' ≡ o)
  one_wrote out o o' n n' w v =
      let e = one_tree v.tree w.tree v.sayable w.sayable in
      let m : n' ≡ n = v.count ∙ ap (λ (z : Tree (List ℕ)). length (written z)) e ∙ sym w.count in
      (m, v.text ∙ ap (λ (z : Tree (List ℕ)). written z ++ drop n' out) e ∙ ap (λ (k : ℕ). written w.tree ++ drop k out) m ∙ sym w.text)

pub one_answer : OneAnswer
one_answer cs rs out (Ok n) (Ok n') o o' w v = let e = one_wrote cs (map row_bytes rs) out o o' n n' w v in (ap Ok e.0, e.1)
one_answer cs rs out (Ok n) (Err f) o o' w v = absurd (wrote_not cs (map row_bytes rs) out o n f w v.0)
one_answer cs rs out (Err f) (Ok n) o o' w v = absurd (wrote_not cs (map row_bytes rs) out o' n f v w.0)
one_answer cs rs out (Err f) (Err g) o o' w v = (ap Err (one_refused cs (map row_bytes rs) (length out) f g w.0 v.0), v.1 ∙ sym w.1)
