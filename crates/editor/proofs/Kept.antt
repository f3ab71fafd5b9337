-- From what the reader of text and the study of a model say to what is kept of a text. Assumes nothing.
use Rattle.std.proofs.Common.{◌≡◌, ℕ, ◌≤◌, List, map, length, take, Ok, sym, ap, ◌∙◌, arith}
use Rattle.std.proofs.lemmas.List.{length-map, length-take, take_at}
use Rattle.faults.specs.declared.Fault.{Fault}
use Rattle.codes.proofs.Answered.{not_refused}
use Rattle.symbols.specs.NameRows.{name_row, name_same}
use Rattle.symbols.specs.declared.name_rows.NameRow.{NameRow}
use Rattle.language.specs.Meaning.{Model, given}
use Rattle.text_reader.specs.declared.Counts.{Counts}
use Rattle.text_reader.specs.Answer.{Taken}
use Rattle.grammar.proofs.Room.{room}
use Rattle.models.specs.declared.tables.Sets.{Sets}
use Rattle.models.specs.Told.{Flawed, refused, ambiguous}
use Rattle.models.specs.Told.{Studied as Judged}
use Rattle.verdicts.specs.Texts.{TextOf, Faulty}
use Rattle.verdicts.specs.Texts as texts
use Rattle.verdicts.proofs.Formed.{texts_are_formed}
use Rattle.editor.specs.Tabled.{StudiedAs}

module _ (t cs : List ℕ) (rs : List NameRow) (r : Counts) (cs' : List ℕ) (rs' : List NameRow) (w : List ℕ) (ns : List (List ℕ)) (d : Taken t cs rs r cs' rs' w ns) where
  read_codes : take r.codes cs' ≡ w
  read_codes = ap (take r.codes) d.wrote ∙ take_at w _ r.codes (sym d.codes)

  read_names : take r.names rs' ≡ map name_row ns
  read_names = ap (take r.names) d.named ∙ take_at (map name_row ns) _ r.names (length-map ns name_row ∙ sym d.names)

  -- the text is that of the codes and names which were read
  pub read_text : TextOf t (given (take r.codes cs') (take r.names rs'))
  read_text = record {
    short = d.fits.short;
    codes = w;
    names = ns;
    within = d.within;
    model = ap (λ (v : List ℕ). given v (take r.names rs')) read_codes ∙ ap (given w) read_names;
  }

  pub read_short : r.codes ≤ 1280
  read_short = omega (arith, d.codes, room d.within.model d.within.few)

  -- what is kept of it, once its model is studied
  pub kept : (sets : Sets) (old new : List ℕ) (few : r.names ≤ 64) → 64 ≤ length rs' → 64 ≤ length old → Judged name_same (given (take r.codes cs') (take r.names rs')) sets old new
      → StudiedAs t (Ok (record { names = rs'; count = r.names; followers = new; sets = sets; few = few }))
  kept sets old new few h k j =
      let n : length (take r.names rs') ≡ r.names = omega (arith, length-take r.names rs', few) in (
        given (take r.codes cs') (take r.names rs'),
        record { text = read_text; clear = j.clear },
        record { tables = j.tables (omega (arith, n, few)); count = sym n },
      )

-- a text whose model is refused is faulty for that
pub flawed_faulty : (t : List ℕ) (m : Model NameRow) (f : Fault) → TextOf t m → Flawed name_same m f → Faulty t f
flawed_faulty t m f d (refused h) = absurd (not_refused _ _ f (texts_are_formed t m d) h)
flawed_faulty t m f d (ambiguous F l) = texts.ambiguous d l
