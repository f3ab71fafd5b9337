use Rattle.std.proofs.Common.{sym, ◌∙◌}
use Rattle.std.proofs.lemmas.Bool.{le-ltb}
use Rattle.reader_vectors.proofs.Standing.{stands_at, stands_past}
use Rattle.reader_vectors.proofs.stands.Goals as goal

pub returns-then-at-word : goal.returns-then-at-word
returns-then-at-word g c =
    c.same.ensures ∙ sym (stands_at g.S.Symbol.same c.args.word.now c.args.at c.index-word-at.result c.args.symbol.now c.if-at-word.true c.index-word-at.is)

pub returns-else-at-word : goal.returns-else-at-word
returns-else-at-word g c =
    le-ltb _ _ c.if-at-word.false ∙ sym (stands_past g.S.Symbol.same c.args.word.now c.args.at c.args.symbol.now c.if-at-word.false)
