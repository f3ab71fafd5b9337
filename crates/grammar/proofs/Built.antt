-- What stands in a text by the productions is a tree's codes and names. Assumes nothing.
use Rattle.std.proofs.Common.{◌≡◌, ℕ, List, [], ◌∷◌, ◌++◌, sym, refl, ap, ◌∙◌, inl, inr, append_assoc, append-nil}
use Rattle.codes.specs.Tree.{Tree, empty, leaf, then, either, maybe, many, some, postfix, leaves}
use Rattle.grammar.specs.declared.Chain.{Chain}
use Rattle.grammar.specs.declared.Chain.TheVariants.{Choice, Seq}
use Rattle.grammar.specs.Grammar.{code, is_query, is_star, is_plus, Marks, unmarked, with_mark, Sym, cp, choice, seq, rest, Is, cp_name, cp_choice, cp_seq, is_choice, is_seq, rest_done, rest_next, Listed, listed_done, listed_next, Mixed, text_alone, text_star, text_names, ContentSpec, empty as empty-spec, mixed, children_choice, children_seq, Model}
use Rattle.grammar.specs.Trees.{Solid, IsTree}

-- some tree without the empty word has these codes and names
abbrev IsSolid : List ℕ → List (List ℕ) → Type 0
IsSolid w ns = (x : Tree (List ℕ)) × Solid x × (w ≡ postfix x) × (ns ≡ leaves x)

-- behind any tree
abbrev Grows : List ℕ → List (List ℕ) → Type 0
Grows v ms = (a : Tree (List ℕ)) → Solid a → IsSolid (postfix a ++ v) (leaves a ++ ms)

-- what each production makes: a tree, or the rest of one behind any tree
abbrev Made : Sym → List ℕ → List (List ℕ) → Type 0
Made cp w ns = IsSolid w ns
Made choice w ns = IsSolid w ns
Made seq w ns = IsSolid w ns
Made (rest g) w ns = Grows w ns

with_marks : {t : List ℕ} {i j : ℕ} (w : List ℕ) {m : List ℕ} (ns : List (List ℕ)) → IsSolid w ns → Marks t i j m →
    IsSolid (w ++ m) ns
with_marks w ns (x, s, e, f) unmarked = (x, s, append-nil w ∙ e, f)
with_marks w ns (x, s, e, f) (with_mark (is_query b c)) = (maybe x, s, ap (λ (y : ℕ). w ++ (y ∷ [])) c ∙ ap (λ (l : List ℕ). l ++ (4 ∷ [])) e, f)
with_marks w ns (x, s, e, f) (with_mark (is_star b c)) = (many x, s, ap (λ (y : ℕ). w ++ (y ∷ [])) c ∙ ap (λ (l : List ℕ). l ++ (5 ∷ [])) e, f)
with_marks w ns (x, s, e, f) (with_mark (is_plus b c)) = (some x, s, ap (λ (y : ℕ). w ++ (y ∷ [])) c ∙ ap (λ (l : List ℕ). l ++ (6 ∷ [])) e, f)

first_then : (w v : List ℕ) (ns ms : List (List ℕ)) → IsSolid w ns → Grows v ms → IsSolid (w ++ v) (ns ++ ms)
first_then w v ns ms (x, s, e, f) g = let z = g x s in (z.0, z.1, ap (λ (l : List ℕ). l ++ v) e ∙ z.2, ap (λ (l : List (List ℕ)). l ++ ms) f ∙ z.3)

-- one particle more
grows_next : (g : Chain) (w v : List ℕ) (ns ms : List (List ℕ)) → IsSolid w ns → Grows v ms →
    Grows ((w ++ (code g ∷ [])) ++ v) (ns ++ ms)
grows_next Choice w v ns ms (b, s, e, f) g a u =
    let z = g (either a b) (u, s) in
    (z.0, z.1, sym (append_assoc (postfix a) (w ++ (3 ∷ [])) v) ∙ ap (λ (l : List ℕ). (postfix a ++ (l ++ (3 ∷ []))) ++ v) e ∙ z.2, sym (append_assoc (leaves a) ns ms) ∙ ap (λ (l : List (List ℕ)). (leaves a ++ l) ++ ms) f ∙ z.3)
grows_next Seq w v ns ms (b, s, e, f) g a u =
    let z = g (then a b) (u, s) in
    (z.0, z.1, sym (append_assoc (postfix a) (w ++ (2 ∷ [])) v) ∙ ap (λ (l : List ℕ). (postfix a ++ (l ++ (2 ∷ []))) ++ v) e ∙ z.2, sym (append_assoc (leaves a) ns ms) ∙ ap (λ (l : List (List ℕ)). (leaves a ++ l) ++ ms) f ∙ z.3)

grows_none : Grows [] []
grows_none a u = (a, u, append-nil (postfix a), append-nil (leaves a))

made : {t : List ℕ} {n : ℕ} {s : Sym} {d i j : ℕ} {w : List ℕ} {ns : List (List ℕ)} → Is t n s d i j w ns → Made s w ns
made (cp_name {m = m} nm k) = with_marks (1 ∷ []) _ (leaf _, tt, refl, refl) k
made (cp_choice {w = w} {ns = ns} r k) = with_marks w ns (made r) k
made (cp_seq {w = w} {ns = ns} r k) = with_marks w ns (made r) k
made (is_choice {w = w} {v = v} {ns = ns} {ms = ms} br de a p u h q) = first_then w v ns ms (made p) (made q)
made (is_seq {w = w} {v = v} {ns = ns} {ms = ms} br de a p q) = first_then w v ns ms (made p) (made q)
made (rest_done a h) = grows_none
made (rest_next {g = g} {w = w} {v = v} {ns = ns} {ms = ms} a h u p q) = grows_next g w v ns ms (made p) (made q)

made_list : {t : List ℕ} {n i j : ℕ} {v : List ℕ} {ms : List (List ℕ)} → Listed t n i j v ms → Grows v ms
made_list (listed_done a h) = grows_none
made_list (listed_next {v = v} {ms = ms} a h u nm q) = grows_next Choice (1 ∷ []) v (_ ∷ []) ms (leaf _, tt, refl, refl) (made_list q)

solid : (w : List ℕ) (ns : List (List ℕ)) → IsSolid w ns → IsTree w ns
solid w ns (x, s, e, f) = (x, inr s, e, f)

made_mixed : {t : List ℕ} {n i j : ℕ} {w : List ℕ} {ns : List (List ℕ)} → Mixed t n i j w ns → IsTree w ns
made_mixed (text_alone a b c d e) = (empty, inl refl, refl, refl)
made_mixed (text_star a b c d e f) = (empty, inl refl, refl, refl)
made_mixed (text_names {v = v} {ms = ms} a b c d e f nm q h) = let z = made_list q (leaf _) tt in (many z.0, inr z.1, ap (λ (l : List ℕ). l ++ (5 ∷ [])) z.2, z.3)

made_spec : {t : List ℕ} {n d i j : ℕ} {w : List ℕ} {ns : List (List ℕ)} → ContentSpec t n d i j w ns → IsTree w ns
made_spec (empty-spec e) = (empty, inl refl, refl, refl)
made_spec (mixed m) = made_mixed m
made_spec (children_choice {w = w} {m = m} {ns = ns} r k) = solid (w ++ m) ns (with_marks w ns (made r) k)
made_spec (children_seq {w = w} {m = m} {ns = ns} r k) = solid (w ++ m) ns (with_marks w ns (made r) k)

pub built : {t : List ℕ} {n d : ℕ} {w : List ℕ} {ns : List (List ℕ)} → Model t n d w ns → IsTree w ns
built m = made_spec m.spec
