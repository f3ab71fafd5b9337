use Rattle.std.proofs.Common.{arith}
use Rattle.editor.proofs.Matched.{states_are}
use Rattle.editor.proofs.matching.MatchReaderReaderNamesakes.states.Goals as goal

pub returns : goal.returns
returns c = let r = c.args.self.now in omega (arith, states_are r.sets r.followers.now r.count)
