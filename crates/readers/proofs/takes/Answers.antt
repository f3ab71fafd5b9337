use Rattle.std.proofs.Common.{sym, ◌∙◌}
use Rattle.std.proofs.lemmas.List.{at_drop_all}
use Rattle.std.proofs.lemmas.Bool.Decides.{Decides-at}
use Rattle.tables.specs.Tables.{ends_from, takes}
use Rattle.tables.proofs.Leading.{takes_decides}
use Rattle.tables.proofs.Words.{step_none}
use Rattle.readers.proofs.takes.Goals as goal

pub returns-in-None : goal.returns-in-None
returns-in-None g c =
    let t = g.R.Reader.table c.args.reader.now in
    let w = c.args.word.now in
    Decides-at _ (takes t w)
    (sym (step_none t w c.loop-symbol.symbol-index c.loop-symbol.state _ c.loop-symbol-test.true c.symbol-item.is c.in-None.ensures) ∙ c.loop-symbol.invariant)
    (takes_decides t w)

pub returns : goal.returns
returns g c =
    let t = g.R.Reader.table c.args.reader.now in
    let w = c.args.word.now in
    Decides-at _ (takes t w)
    (c.is_ending.ensures ∙ sym (at_drop_all (ends_from t c.loop-symbol.state) w c.loop-symbol.symbol-index c.loop-symbol-test.false) ∙ c.loop-symbol.invariant)
    (takes_decides t w)
