-- The line that tells what a comparison found, to the byte, and why one is refused. Assumes nothing.
use Rattle.std.specs.Prelude.{◌≡◌, ℕ, ◌<◌, ◌≤◌, min, cond, ◌⊎◌, List, [], ◌∷◌, ◌++◌, length, take, codes, decimal, nat_lt, Option, None, Some}
use Rattle.std.specs.List.{flat_map}
use Rattle.faults.specs.declared.Layer.TheVariants.{Line}
use Rattle.faults.specs.declared.Fault.{Fault}
use Rattle.faults.specs.declared.Fault.TheVariants.{NoPlace, ShortList}
use Rattle.book.specs.Puts.{Put}

-- In what follows, v is what a comparison found: how many symbols the word has that shows that the first model is not included in the second, and none where it is.

-- how many symbols are shown: of a word the first eight, or all where there are fewer
abbrev pub symbols_shown : Option ℕ → ℕ
symbols_shown None = 0
symbols_shown (Some l) = min l 8

-- a space and the written form, for each symbol
abbrev pub forms_shown : {S : Type 0} → (S → List ℕ) → List S → List ℕ
forms_shown written symbols = flat_map (λ s. 32 ∷ written s) symbols

-- the sign for a word of more symbols than are shown
abbrev pub dots : ℕ → List ℕ
dots l = cond (nat_lt 8 l) (codes " ...") []

-- the two places
abbrev pub places_shown : ℕ → ℕ → List ℕ
places_shown p q = decimal p ++ (codes " in " ++ decimal q)

-- what follows the places, with the symbols that are shown
abbrev pub verdict_shown : {S : Type 0} → (S → List ℕ) → Option ℕ → List S → List ℕ
verdict_shown written None symbols = codes ": included" ++ (10 ∷ [])
verdict_shown written (Some l) symbols = codes ": not, " ++ (decimal l ++ (codes " symbols:" ++ (forms_shown written symbols ++ (dots l ++ (10 ∷ [])))))

-- the line
abbrev pub line_of : {S : Type 0} → (S → List ℕ) → ℕ → ℕ → Option ℕ → List S → List ℕ
line_of written p q v symbols = places_shown p q ++ verdict_shown written v (take (symbols_shown v) symbols)

-- two places below 16
abbrev pub Places : ℕ → ℕ → Type 0
Places p q = (p < 16) × (q < 16)

-- a line was written first into the list, and all other cells are as before
pub record LineWritten {S : Type 0} (written : S → List ℕ) (p q : ℕ) (v : Option ℕ) (symbols : List S) (before after : List ℕ) (n : ℕ) : Type 0 where
  pub places : Places p q
  pub enough : symbols_shown v ≤ length symbols
  pub line : Put before after 0 (line_of written p q v symbols) n

-- why no line was written into a list of `cells`: the first place that is not below 16, too few symbols, or too short a list
abbrev pub LineRefused : {S : Type 0} → (S → List ℕ) → ℕ → ℕ → Option ℕ → List S → ℕ → Fault → Type 0
LineRefused written p q v symbols cells f =
    ((16 ≤ p) × (f ≡ NoPlace p))
    ⊎ (((p < 16) × (16 ≤ q) × (f ≡ NoPlace q))
    ⊎ ((Places p q × (length symbols < symbols_shown v) × (f ≡ ShortList Line (symbols_shown v)))
    ⊎ (Places p q × (symbols_shown v ≤ length symbols) × (cells < length (line_of written p q v symbols)) × (f ≡ ShortList Line (length (line_of written p q v symbols))))))
