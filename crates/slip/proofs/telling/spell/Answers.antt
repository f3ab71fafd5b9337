use Rattle.std.proofs.Common.{◌+◌, ◌∙◌, ap}
use Rattle.slip.proofs.Spelling.{spelled_more}
use Rattle.slip.proofs.telling.spell.Goals as goal

pub loop-position-preserved : goal.loop-position-preserved
loop-position-preserved c = (
  c.push.ensures.items ∙ spelled_more c.args.symbols.now c.loop-position.rows.items c.args.word.now c.loop-position.position-index c.from.result _ c.requires.within c.loop-position-test.true c.from.ensures c.loop-position.invariant.0,
  c.push.ensures.len ∙ ap (λ n. n + 1) c.loop-position.invariant.1,
)
