-- The parts of a line, and how long they are. Assumes nothing.
use Rattle.std.proofs.Common.{ℕ, ◌*◌, ◌≤◌, List, [], ◌∷◌, ◌++◌, length, codes, decimal, arith, Option, None, Some}
use Rattle.std.proofs.lemmas.Fmt.{length-decimal-le}
use Rattle.std.proofs.lemmas.List.{length-append}
use Rattle.symbols.specs.Forms.{Sized}
use Rattle.book.specs.Line.{symbols_shown, forms_shown, places_shown, Places}

pub shown_most : (v : Option ℕ) → symbols_shown v ≤ 8
shown_most None = omega arith
shown_most (Some l) = omega arith

pub places_most : (p q : ℕ) → Places p q → length (places_shown p q) ≤ 8
places_most p q h =
    let a = length-decimal-le 2 p (omega arith) (omega (arith, h.0)) (omega (arith, h.0)) in
    let b = length-decimal-le 2 q (omega arith) (omega (arith, h.1)) (omega (arith, h.1)) in
    let l = length-append (decimal p) (codes " in " ++ decimal q) in
    omega arith

module _ {S : Type 0} (written : S → List ℕ) where
  pub forms_most : ((a : S) → Sized (written a)) → (symbols : List S) → length (forms_shown written symbols) ≤ 33 * length symbols
  forms_most sized [] = omega arith
  forms_most sized (a ∷ more) =
      let h = forms_most sized more in
      let l = length-append (written a) (forms_shown written more) in
      let m = (sized a).most in
      omega arith
