use Rattle.std.proofs.Common.{◌≡◌, ◌+◌, min, sym, ap, ◌∙◌, arith}
use lib.Count.{count_trailing_zeros}
use lib.Dec.{ltb}
use Rattle.std.specs.Bool.{then_some}
use Rattle.editor.proofs.Bits.{lowest_at}
use Rattle.editor.proofs.matching.lowest_position.Goals as goal

pub returns : goal.returns
returns c =
    let zeros = count_trailing_zeros 64 c.args.set in
    let n : c.min.result ≡ min 64 c.args.count = omega (arith, c.min.ensures) in
    c.then_some.ensures ∙ ap (λ i. then_some (ltb zeros i) (zeros + 1)) n ∙ sym (lowest_at (min 64 c.args.count) c.args.set (omega arith))
