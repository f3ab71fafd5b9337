use Rattle.std.proofs.Common.{◌≡◌, ◌+◌, cond, get_or, sym, subst}
use lib.Bits.{bit_or}
use Rattle.models.specs.Bitsets.{bit}
use Rattle.models.specs.Clashes.{Shares}
use Rattle.models.proofs.Sharing.{share_more}
use Rattle.models.proofs.pairs.sharing.Goals as goal
use Rattle.models.proofs.pairs.sharing.Goals.{then-has-2, else-has-2}

pub loop-row-preserved : goal.loop-row-preserved
loop-row-preserved c =
    let rs = c.args.rows.now in
    let i = c.loop-row.row-index in
    let row = get_or rs i 0 in
    let e : c.if-has-2.set ≡ cond (bit row c.args.x) (bit_or c.loop-row.set row) c.loop-row.set =
    elim c.if-has-2.branch [ then-has-2 w ↦ rw (← w.if-has-2.ensures) w.set-is | else-has-2 w ↦ rw (← w.if-has-2.ensures) w.set-is ] in
    subst (λ a. Shares a c.args.first rs (i + 1) c.args.x) (sym e) (share_more c.args.first rs i c.args.x c.loop-row.set c.loop-row.invariant)
