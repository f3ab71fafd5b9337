use Rattle.std.proofs.Common.{sym, ◌∙◌, arith}
use Rattle.shelf.specs.Places.{state}
use Rattle.shelf.proofs.Refining.{reader_taken, reader_takes, reader_states}
use Rattle.shelf.proofs.shelves.Shelf.reader.Goals as goal

pub returns : goal.returns
returns g c =
    let same = g.S.Symbol.same in
    let p = c.args.place in
    let s = state c.args.self.now c.args.symbols.now c.args.numbers.now in
    let e = reader_taken _ _ c.in-Ok.from c.in-Ok.kept _ c.args.symbols.now c.args.numbers.now p (sym c.in-Ok.is ∙ c.taken.ensures) (omega arith) in
    record { exact = e; takes = reader_takes same g.S.Symbol.laws s p _ e; states = reader_states same s p _ e }
