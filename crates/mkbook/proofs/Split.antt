-- The lines of an input, found one after the other. Assumes nothing.
use Rattle.std.proofs.Common.{◌≡◌, ℕ, zero, suc, ◌<◌, cond, eqb, Bool, true, false, List, [], ◌∷◌, ◌++◌, length, take, drop, Option, None, Some, MatchOption, Bor, sym, ap, ◌∙◌, arith}
use Rattle.std.specs.List.{AllWithin, HoldsAt}
use Rattle.std.proofs.lemmas.List.{append_assoc, append-nil, map-append}
use Rattle.std.proofs.lemmas.Bool.{cond-true, cond-false, eq-eqb, ne_eqb}
use Rattle.book.specs.Makings.{contents}
use Rattle.mkbook.specs.Lines.{without_return, lines_after, lines_of}

abbrev pub Feed : ℕ → Type 0
Feed b = b ≡ 10

abbrev pub Other : ℕ → Type 0
Other b = b ≡ 10 → ⊥

-- where the first line feed of what is left stands, if it has one
abbrev pub Ends : List ℕ → Option ℕ → Type 0
Ends rest at = MatchOption at (AllWithin Other rest 0 (length rest)) (λ end. (end < length rest) × HoldsAt Feed rest end × AllWithin Other rest 0 end)

goes_on : (begun : List ℕ) (b : ℕ) (more : List ℕ) → Other b → lines_after begun (b ∷ more) ≡ lines_after (begun ++ b ∷ []) more
goes_on begun b more n = cond-false (eqb b 10) (without_return begun ∷ lines_of more) (lines_after (begun ++ b ∷ []) more) (ne_eqb b 10 n)

first_line : (begun rest : List ℕ) (end : ℕ) → Ends rest (Some end) → lines_after begun rest ≡ without_return (begun ++ take end rest) ∷ lines_of (drop (suc end) rest)
first_line begun [] end e = absurd (omega (arith, e.0))
first_line begun (b ∷ more) zero e =
    cond-true (eqb b 10) (without_return begun ∷ lines_of more) (lines_after (begun ++ b ∷ []) more) (eq-eqb b 10 (e.1 0))
    ∙ ap (λ (w : List ℕ). without_return w ∷ lines_of more) (sym (append-nil begun))
first_line begun (b ∷ more) (suc end) e =
    goes_on begun b more (e.2 0 0 (omega arith) (omega arith))
    ∙ first_line (begun ++ b ∷ []) more end (omega (arith, e.0), e.1, λ k d l h. e.2 (suc k) d (omega arith) (omega arith))
    ∙ ap (λ (w : List ℕ). without_return w ∷ lines_of (drop (suc end) more)) (append_assoc begun (b ∷ []) (take end more))

last_line : (begun rest : List ℕ) → Ends rest None → lines_after begun rest ≡ lines_after (begun ++ rest) []
last_line begun [] e = ap (λ (w : List ℕ). lines_after w []) (sym (append-nil begun))
last_line begun (b ∷ more) e =
    goes_on begun b more (e 0 0 (omega arith) (omega arith))
    ∙ last_line (begun ++ b ∷ []) more (λ k d l h. e (suc k) d (omega arith) (omega arith))
    ∙ ap (λ (w : List ℕ). lines_after w []) (append_assoc begun (b ∷ []) more)

-- a line, as a vector holds it
abbrev Line : Type 0
Line = Bor (List ℕ)

module _ (lines : List Line) (rest : List ℕ) (line : Line) where
  contents_push : contents (lines ++ line ∷ []) ≡ contents lines ++ line.now ∷ []
  contents_push = map-append (λ (s : Line). s.now) lines (line ∷ [])

  pub found_line : (end : ℕ) → Ends rest (Some end) → line.now ≡ without_return (take end rest) → contents (lines ++ line ∷ []) ++ lines_of (drop (suc end) rest) ≡ contents lines ++ lines_of rest
  found_line end e w =
      let after : List (List ℕ) = lines_of (drop (suc end) rest) in
      ap (λ (v : List (List ℕ)). v ++ after) contents_push
      ∙ append_assoc (contents lines) (line.now ∷ []) after
      ∙ ap (λ (v : List (List ℕ)). contents lines ++ v) (ap (λ (u : List ℕ). u ∷ after) w ∙ sym (first_line [] rest end e))

  module _ (e : Ends rest None) (w : line.now ≡ without_return rest) where
    left : (empty : Bool) → empty ≡ eqb (length line.now) 0 → contents lines ++ lines_of rest ≡ contents lines ++ cond empty [] (line.now ∷ [])
    left empty b = ap (λ (v : List (List ℕ)). contents lines ++ v) (last_line [] rest e ∙ cc)

    pub found_none : true ≡ eqb (length line.now) 0 → contents lines ≡ contents lines ++ lines_of rest
    found_none b = sym (left true b ∙ append-nil (contents lines))

    pub found_last : false ≡ eqb (length line.now) 0 → contents (lines ++ line ∷ []) ≡ contents lines ++ lines_of rest
    found_last b = contents_push ∙ sym (left false b)
