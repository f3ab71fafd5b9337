use Rattle.std.proofs.Common.{arith}
use Rattle.editor.proofs.Judged.{most_pairs}
use Rattle.editor.proofs.including.includes.Goals as goal

pub includes_over-requires-else-first-second-le-FEW_PAIRS :
    goal.includes_over-requires-else-first-second-le-FEW_PAIRS
includes_over-requires-else-first-second-le-FEW_PAIRS c =
    let h = most_pairs c.args.first.now c.args.second.now in record { work = omega (arith, h); word = h }
