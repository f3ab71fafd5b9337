-- The line of two places of a desk. Assumes nothing.
use Rattle.std.proofs.Common.{◌≡◌, ℕ, ◌<◌, cond, List, ◌++◌, length, take, is_ok, IfOk, Some, Ok, Err, Result, sym, ap, ◌∙◌, subst, Option}
use Rattle.std.specs.List.{slice_get}
use Rattle.std.proofs.lemmas.Bool.{and_parts, ltb-true}
use Rattle.symbols.specs.NameRows.{row_bytes}
use Rattle.symbols.specs.declared.name_rows.NameRow.{NameRow}
use Rattle.language.specs.Meaning.{Model, spelled}
use Rattle.models.specs.declared.tables.Sets.{Sets}
use Rattle.shelf.specs.Places.{cells, cells_of}
use Rattle.book.specs.Line.{symbols_shown, line_of}
use Rattle.slip.specs.declared.desks.Desk.{Desk}
use Rattle.slip.specs.Printed.{Judged}
use Rattle.slip.specs.Desks.{Models, memory_of, Has, Found, InRange, Short}
use Rattle.slip.proofs.Comparing.{stands_at, formed_at}
use Rattle.slip.proofs.Spelling.{found_range, found_short, found_judged, reader_symbols}

-- a place with a model is one of the sixteen
pub below : (d : Desk) (ms : Models) → Has d ms → (p : ℕ) (m : Model NameRow) → slice_get ms p ≡ Some m → p < 16
below d ms h p m e = ltb-true p 16 (and_parts _ _ (formed_at d ms h p m e).0).0

-- what holds where a line was put behind a text
pub made_told : {T E : Type 0} (r : Result T E) (P : Type 0) (before after line : List ℕ) → after ≡ cond (is_ok r) (before ++ line) before → (after ≡ before ++ line → P) → IfOk r (λ _. P)
made_told (Ok u) P before after line e f = f e
made_told (Err u) P before after line e f = tt

module _ (e : Desk) (ms : Models) (h : Has e ms) (first second : ℕ) (m n : Model NameRow) (p : slice_get ms first ≡ Some m) (v : Option ℕ) (f : Found m n v e.word)
    (xs : List NameRow) (followers : List ℕ) (sets : Sets) (exact : cells xs followers sets ≡ cells_of (memory_of e).base first) where
  own : xs ≡ m.symbols
  own = reader_symbols (memory_of e).base first m xs followers sets exact (formed_at e ms h first m p).0 (stands_at e ms h first m p)

  pub in_range : (count : ℕ) → count ≡ symbols_shown v → InRange (length xs) (take count e.word)
  in_range count z =
      subst (λ (ys : List NameRow). InRange (length ys) (take count e.word)) (sym own)
      (subst (λ (k : ℕ). InRange (length m.symbols) (take k e.word)) (sym z) (found_range m n (formed_at e ms h first m p).1 e.word v f))

  pub short : Short v
  short = found_short m n (formed_at e ms h first m p).1 e.word v f h.roomy.word

  pub judged_line : (count : ℕ) (rows : List NameRow) → count ≡ symbols_shown v → rows ≡ spelled xs (take count e.word)
      → (s : List NameRow) × Judged m n v s × (line_of row_bytes first second v rows ≡ line_of row_bytes first second v s)
  judged_line count rows z w =
      found_judged m n (formed_at e ms h first m p).1 e.word first second v rows f
      (w ∙ ap (λ (ys : List NameRow). spelled ys (take count e.word)) own ∙ ap (λ (k : ℕ). spelled m.symbols (take k e.word)) z)
