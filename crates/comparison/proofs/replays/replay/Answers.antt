use Rattle.std.proofs.Common.{refl, ◌∙◌, arith, rules}
use Rattle.std.proofs.lemmas.List.{drop-set-lt, length-set}
use Rattle.comparison.specs.Runs.{request, none}
use Rattle.comparison.proofs.Running.{replayed, replay_more}
use Rattle.comparison.proofs.replays.replay.Goals as goal

pub loop-i-init : goal.loop-i-init
loop-i-init g c = (none, refl, refl)

pub loop-i-preserved : goal.loop-i-preserved
loop-i-preserved g c = (
  replay_more g.S.Symbol.same g.S.Symbol.laws (request g.R.Reader.table) c.args.calls.now _ _ _ c.loop-i.answers c.loop-i.i _ c.call.result c.loop-i-test.true (omega arith) (search rules) c.loop-i.invariant.0 c.call.ensures,
  length-set c.loop-i.answers c.loop-i.i c.call.result ∙ c.loop-i.invariant.1,
  drop-set-lt _ c.loop-i.answers c.loop-i.i c.call.result c.loop-i-test.true ∙ c.loop-i.invariant.2,
)

pub returns : goal.returns
returns g c = record {
  test = search rules;
  replays = replayed g.S.Symbol.same g.S.Symbol.laws (request g.R.Reader.table) c.args.calls.now _ _ c.args.answers.now c.loop-i.answers c.loop-i.i c.loop-i-test.false (omega arith) c.loop-i.invariant.0 c.loop-i.invariant.2;
}
