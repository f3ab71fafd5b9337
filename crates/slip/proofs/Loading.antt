-- What is loaded of a text. Assumes nothing.
use Rattle.std.proofs.Common.{◌≡◌, ℕ, ◌≤◌, List, map, length, take, drop, Ok, Err, sym, ap, ◌∙◌, subst, arith}
use Rattle.std.proofs.lemmas.List.{take_at, length-append, length-map}
use Rattle.faults.specs.declared.Fault.{Fault}
use Rattle.symbols.specs.NameRows.{name_row, name_same}
use Rattle.symbols.specs.declared.name_rows.NameRow.{NameRow}
use Rattle.codes.proofs.Answered.{not_refused}
use Rattle.language.specs.Meaning.{Model, given}
use Rattle.models.specs.Told as told
use Rattle.shelf.specs.Calls.{Done}
use Rattle.text_reader.specs.declared.Counts.{Counts}
use Rattle.text_reader.specs.Answer.{Answer}
use Rattle.verdicts.specs.Texts.{TextOf, Faulty, unread, ambiguous}
use Rattle.verdicts.proofs.Formed.{texts_are_formed}
use Rattle.verdicts.proofs.Meanings.{refused_unread}
use Rattle.slip.specs.declared.desks.Desk.{Desk}
use Rattle.slip.specs.Desks.{Models, Puts, Reads}

-- a text that is not read
pub unread_reads : (ms : Models) (t cs cs' : List ℕ) (rs rs' : List NameRow) (e : Desk) (r : Done) (f g : Fault) → r ≡ Err g → g ≡ f
    → 1280 ≤ length cs → 64 ≤ length rs → Answer t cs rs (Err f) cs' rs' → Reads ms t r e
unread_reads ms t cs cs' rs rs' e r f g p q h k a =
    subst (λ (i : Done). Reads ms t i e) (sym (p ∙ ap Err q)) (unread (refused_unread t cs rs f h k a.0))

module _ (t cs cs' : List ℕ) (rs rs' : List NameRow) (r : Counts) (a : Answer t cs rs (Ok r) cs' rs') where
  -- as many codes as there are stand in the list
  pub codes_fit : r.codes ≤ length cs'
  codes_fit =
      let T = a.2 in
      let l = ap length T.wrote in
      let k = length-append a.0 (drop (length a.0) cs) in
      omega (arith, T.codes)

  -- the codes and the names that were read are those of the text's model
  pub text_of : TextOf t (given (take r.codes cs') (take r.names rs'))
  text_of =
      let T = a.2 in
      let w = a.0 in
      let ns = a.1 in
      let i : length w ≡ r.codes = omega (arith, T.codes) in
      let j : length (map name_row ns) ≡ r.names = omega (arith, T.names, length-map ns name_row) in
      let c : take r.codes cs' ≡ w = ap (take r.codes) T.wrote ∙ take_at w (drop (length w) cs) r.codes i in
      let n : take r.names rs' ≡ map name_row ns = ap (take r.names) T.named ∙ take_at (map name_row ns) (drop (length ns) rs) r.names j in
      record {
        short = T.fits.short;
        codes = w;
        names = ns;
        within = T.within;
        model = ap (λ (u : List ℕ). given u (take r.names rs')) c ∙ ap (given w) n;
      }

-- the model of a text can only be ambiguous
flawed_faulty : (t : List ℕ) (m : Model NameRow) (f : Fault) → TextOf t m → told.Flawed name_same m f → Faulty t f
flawed_faulty t m f d (told.refused x) = absurd (not_refused (length m.symbols) m.codes f (texts_are_formed t m d) x)
flawed_faulty t m f d (told.ambiguous F l) = ambiguous d l

pub puts_reads : (ms : Models) (t : List ℕ) (m : Model NameRow) (e : Desk) (r : Done) → TextOf t m → Puts ms m r e → Reads ms t r e
puts_reads ms t m e (Ok u) d p = (m, record { text = d; clear = p.0.1 }, p.1)
puts_reads ms t m e (Err f) d p = flawed_faulty t m f d p
