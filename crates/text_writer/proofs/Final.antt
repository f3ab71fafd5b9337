-- From the checks and the draft to the writer's answer. Assumes nothing.
use Rattle.std.proofs.Common.{◌≡◌, ℕ, ◌+◌, ◌≤◌, Bool, true, false, not, ◌&&◌, eqb, leb, List, [], ◌∷◌, ◌++◌, map, length, get_or, drop, Ok, Err, Result, sym, refl, ap, ◌∙◌, subst, inl, inr, append_assoc, append-nil, arith}
use Rattle.std.proofs.Math.Bool.{and-true}
use Rattle.std.proofs.lemmas.Grind.{common_steps}
use Rattle.faults.specs.declared.Fault.{Fault}
use Rattle.symbols.specs.NameRows.{row_bytes}
use Rattle.symbols.specs.declared.name_rows.NameRow.{NameRow}
use Rattle.codes.specs.Tree.{Tree, empty, leaf, then, either, maybe, many, some, postfix, leaves}
use Rattle.codes.specs.Checked as checked
use Rattle.grammar.specs.Grammar.{Model}
use Rattle.grammar.specs.Trees.{Solid, Plain}
use Rattle.text_writer.specs.declared.parts.Rest.{Rest}
use Rattle.text_writer.specs.declared.place.Place.TheVariants.{Alone}
use Rattle.text_writer.specs.Written.{grouped, text, written}
use Rattle.text_writer.specs.Levels.{Shallow}
use Rattle.text_writer.specs.Drafts.{Put, ended, SaidTree}
use Rattle.text_writer.specs.Writes.{NoneEmpty, AllNames, Sayable, Refused, no_room, Writes, Copied}
use Rattle.text_writer.proofs.Nest.{Named}
use Rattle.text_writer.proofs.Round.{round_trip, empty_reads}
use Rattle.text_writer.proofs.Wrapped.{wrapped, shallow_nest, text_length, grouped_length}
use Rattle.text_writer.proofs.Trees.{tree_of, plain_from, solid_named}

-- the first code of a tree without the empty word is a symbol's
first_code : {A : Type 0} (x : Tree A) → Solid x → (s : List ℕ) → get_or (postfix x ++ s) 0 0 ≡ 1
first_code empty f s = absurd f
first_code (leaf a) f s = refl
first_code (then l r) f s = ap (λ (w : List ℕ). get_or w 0 0) (append_assoc (postfix l) (postfix r ++ (2 ∷ [])) s) ∙ first_code l f.0 ((postfix r ++ (2 ∷ [])) ++ s)
first_code (either l r) f s = ap (λ (w : List ℕ). get_or w 0 0) (append_assoc (postfix l) (postfix r ++ (3 ∷ [])) s) ∙ first_code l f.0 ((postfix r ++ (3 ∷ [])) ++ s)
first_code (maybe e) f s = ap (λ (w : List ℕ). get_or w 0 0) (append_assoc (postfix e) (4 ∷ []) s) ∙ first_code e f ((4 ∷ []) ++ s)
first_code (many e) f s = ap (λ (w : List ℕ). get_or w 0 0) (append_assoc (postfix e) (5 ∷ []) s) ∙ first_code e f ((5 ∷ []) ++ s)
first_code (some e) f s = ap (λ (w : List ℕ). get_or w 0 0) (append_assoc (postfix e) (6 ∷ []) s) ∙ first_code e f ((6 ∷ []) ++ s)

abbrev pub bare : List ℕ → Bool
bare cs = leb (length cs) 2 && not (eqb (get_or cs 0 0) 0)

bare_solid : (x : Tree (List ℕ)) → Solid x → bare (postfix x) ≡ leb (length (postfix x)) 2
bare_solid x f =
    let one : get_or (postfix x) 0 0 ≡ 1 = subst (λ (w : List ℕ). get_or w 0 0 ≡ 1) (append-nil (postfix x)) (first_code x f []) in
    ap (λ (c : ℕ). leb (length (postfix x)) 2 && not (eqb c 0)) one ∙ and-true (leb (length (postfix x)) 2)

-- the names of a tree
named_of : {cs : List ℕ} {ns : List (List ℕ)} {x : Tree (List ℕ)} → Sayable cs ns x → Solid x → Named x
named_of {cs} {ns} {x} s f = solid_named x f (subst AllNames s.names s.named)

written_bare : (x : Tree (List ℕ)) → (Solid x → Named x) → Plain x → written x ≡ grouped (bare (postfix x)) (text Alone x)
written_bare x n (inl e) = subst (λ (y : Tree (List ℕ)). written y ≡ grouped (bare (postfix y)) (text Alone y)) (sym e) refl
written_bare x n (inr f) = wrapped x (n f) ∙ ap (λ (b : Bool). grouped b (text Alone x)) (sym (bare_solid x f))

-- a text has at most 5,890 bytes
text_small : {cs : List ℕ} {ns : List (List ℕ)} {x : Tree (List ℕ)} → Sayable cs ns x → Plain x → length (text Alone x) + 2 ≤ 5890
text_small {cs} {ns} {x} s (inl e) = subst (λ (y : Tree (List ℕ)). length (text Alone y) + 2 ≤ 5890) (sym e) (omega arith)
text_small {cs} {ns} {x} s (inr f) =
    omega (arith, text_length x (named_of s f) Alone, s.formed.few, s.formed.short, ap length s.names, ap length s.codes)

pub written_small : {cs : List ℕ} {ns : List (List ℕ)} {x : Tree (List ℕ)} → Sayable cs ns x → length (written x) ≤ 5890
written_small {cs} {ns} {x} s =
    let e = ap length (written_bare x (named_of s) s.plain) in
    omega (arith, grouped_length (bare (postfix x)) (text Alone x), text_small s s.plain)

-- brackets for a bare text, its parts from the last to the first, brackets
ends_put : (b : Bool) (t d₁ d₂ d₃ : List ℕ) → length t + 2 ≤ 5890 → Put [] (ended b 41) d₁ → Put d₁ t d₂ → Put d₂ (ended b 40) d₃ → d₃ ≡ grouped b t
ends_put true t d₁ d₂ d₃ h p₁ p₂ p₃ = grind (arith, common_steps)
ends_put false t d₁ d₂ d₃ h p₁ p₂ p₃ = grind (arith, common_steps)

pub drafted : (r q : Rest) (x : Tree (List ℕ)) (b : Bool) (d₁ d₂ d₃ : List ℕ) → Sayable r.codes.now (map row_bytes r.names.now) x → b ≡ bare r.codes.now
    → Put [] (ended b 41) d₁ → SaidTree r Alone d₁ q d₂ → Put d₂ (ended b 40) d₃ → d₃ ≡ written x
drafted r q x b d₁ d₂ d₃ s e p₁ t p₃ =
    ends_put b (text Alone x) d₁ d₂ d₃ (text_small s s.plain) p₁ (λ m. (t x [] [] (record { codes = s.codes; names = s.names }) m).1) p₃
    ∙ ap (λ (v : Bool). grouped v (text Alone x)) (e ∙ ap bare s.codes) ∙ sym (written_bare x (named_of s) s.plain)

-- the tree that checked codes and names say
pub sayable_of : (cs : List ℕ) (ns : List (List ℕ)) → checked.WellFormed (length ns) cs → NoneEmpty cs → AllNames ns → (x : Tree (List ℕ)) × Sayable cs ns x
sayable_of cs ns w e n =
    let t = tree_of cs ns w.tree w.codes in
    (t.0, record { formed = w; codes = t.1; names = t.2; plain = plain_from t.0 (subst NoneEmpty t.1 e); named = n })

-- what is written reads back
reads_back : (x : Tree (List ℕ)) → (Solid x → Named x) → Plain x → Shallow (written x) → Model (written x) 32 16 (postfix x) (leaves x)
reads_back x n (inl e) h = subst (λ (y : Tree (List ℕ)). Model (written y) 32 16 (postfix y) (leaves y)) (sym e) empty_reads
reads_back x n (inr f) h = round_trip x (n f) (shallow_nest x (n f) h)

pub finished : (cs : List ℕ) (rs : List NameRow) (x : Tree (List ℕ)) (s out out' : List ℕ) (r : Result ℕ Fault) → Sayable cs (map row_bytes rs) x → s ≡ written x → Shallow s → Copied s out r out' → Writes cs rs out r out'
finished cs rs x s out out' (Ok n) y e h k = record {
  tree = x;
  sayable = y;
  shallow = subst Shallow e h;
  count = k.0 ∙ ap length e;
  room = k.1;
  text = k.2 ∙ ap (λ (w : List ℕ). w ++ drop n out) e;
  reads = subst (λ (ns : List (List ℕ)). Model (written x) 32 16 cs ns) (sym y.names)
      (subst (λ (w : List ℕ). Model (written x) 32 16 w (leaves x)) (sym y.codes) (reads_back x (named_of y) y.plain (subst Shallow e h)));
  short = omega (arith, k.0, ap length e, written_small y);
}
finished cs rs x s out out' (Err f) y e h k =
    (subst (λ (g : Fault). Refused cs (map row_bytes rs) (length out) g) (sym k.1) (no_room y (subst Shallow e h) (ap length e) k.0), k.2)
