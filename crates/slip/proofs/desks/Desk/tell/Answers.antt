use Rattle.std.proofs.Common.{[], ◌++◌, get_or, length, vec_items, ap, ◌∙◌, arith}
use Rattle.std.proofs.lemmas.Option.{slice_get-get_or}
use Rattle.std.proofs.lemmas.List.{length-take}
use Rattle.symbols.specs.NameRows.{row_bytes}
use Rattle.language.specs.Meaning.{given}
use Rattle.book.specs.Line.{line_of}
use Rattle.book.proofs.Shown.{shown_most}
use Rattle.slip.proofs.Lined.{below, made_told, in_range, short, judged_line}
use Rattle.slip.proofs.desks.Desk.tell.Goals as goal

pub spell-requires : goal.spell-requires
spell-requires c =
    let ms = c.requires.0 in
    let first = c.args.first in
    let second = c.args.second in
    let m = get_or ms first (given [] []) in
    let n = get_or ms second (given [] []) in
    let p = slice_get-get_or ms first (given [] []) c.requires.2 in
    let q = slice_get-get_or ms second (given [] []) c.requires.3 in
    let f = c.compare-missed.ensures ms m n c.requires.1 p q in
    let v = c.compare-missed.result in
    record {
      within = in_range c.compare-missed.new.self ms f.1 first second m n p v f.0 _ _ _ c.reader-model.ensures.exact c.shown_symbols.result c.shown_symbols.ensures;
      few = omega (arith, shown_most v, c.shown_symbols.ensures, length-take c.shown_symbols.result c.compare-missed.new.self.word);
    }

pub push_line-requires : goal.push_line-requires
push_line-requires c =
    let ms = c.requires.0 in
    let first = c.args.first in
    let second = c.args.second in
    let m = get_or ms first (given [] []) in
    let n = get_or ms second (given [] []) in
    let p = slice_get-get_or ms first (given [] []) c.requires.2 in
    let q = slice_get-get_or ms second (given [] []) c.requires.3 in
    let f = c.compare-missed.ensures ms m n c.requires.1 p q in
    let v = c.compare-missed.result in
    record {
      places = (below _ ms c.requires.1 first m p, below _ ms c.requires.1 second n q);
      short = short c.compare-missed.new.self ms f.1 first second m n p v f.0 _ _ _ c.reader-model.ensures.exact;
      enough = omega (arith, shown_most v, c.shown_symbols.ensures, c.spell.ensures.count, ap length c.deref.ensures.0, length-take c.shown_symbols.result c.compare-missed.new.self.word);
    }

pub returns : goal.returns
returns c = λ ms h i j.
    let first = c.args.first in
    let second = c.args.second in
    let v = c.compare-missed.result in
    let text = vec_items c.args.text.now in
    let rows_are = c.deref.ensures.0 ∙ c.spell.ensures.symbols in
    let line = line_of row_bytes first second v c.deref.result.now in
    let g = c.compare-missed.ensures ms (get_or ms first (given [] [])) (get_or ms second (given [] [])) h (slice_get-get_or ms first (given [] []) i) (slice_get-get_or ms second (given [] []) j) in (
      g.1,
      made_told c.push_line.result _ text _ line c.push_line.ensures (λ e m n p q.
          let f = c.compare-missed.ensures ms m n h p q in
          let s = judged_line c.compare-missed.new.self ms f.1 first second m n p v f.0 _ _ _ c.reader-model.ensures.exact c.shown_symbols.result c.deref.result.now c.shown_symbols.ensures rows_are in
          (v, s.0, s.1, e ∙ ap (λ l. text ++ l) s.2)),
    )
