use Rattle.std.proofs.Common.{◌≡◌, ◌&&◌, cond}
use lib.Bits.{bit_or}
use Rattle.models.proofs.Bitsets.{then_shows}
use Rattle.models.proofs.tables.Sets.then.Goals as goal
use Rattle.models.proofs.tables.Sets.then.Goals.{then-self, else-self, then-self-2, else-self-2}

pub returns-then-next : goal.returns-then-next
returns-then-next c e f =
    let null : c.if-self.result ≡ (c.args.self.nullable && c.args.next.nullable) =
    elim c.if-self.branch [ then-self w ↦ rw (w.result-is, w.if-self.true) | else-self w ↦ rw (w.result-is, w.if-self.false) ] in
    let first : c.if-self-2.result ≡ cond c.args.self.nullable (bit_or c.args.self.first c.args.next.first) c.args.self.first =
    elim c.if-self-2.branch [ then-self-2 w ↦ rw (w.result-is, w.if-self-2.true) | else-self-2 w ↦ rw (w.result-is, w.if-self-2.false) ] in
    then_shows c.args.self c.args.next _ e f null first (rw c.if-next.true)

pub returns-else-next : goal.returns-else-next
returns-else-next c e f =
    let null : c.if-self.result ≡ (c.args.self.nullable && c.args.next.nullable) =
    elim c.if-self.branch [ then-self w ↦ rw (w.result-is, w.if-self.true) | else-self w ↦ rw (w.result-is, w.if-self.false) ] in
    let first : c.if-self-2.result ≡ cond c.args.self.nullable (bit_or c.args.self.first c.args.next.first) c.args.self.first =
    elim c.if-self-2.branch [ then-self-2 w ↦ rw (w.result-is, w.if-self-2.true) | else-self-2 w ↦ rw (w.result-is, w.if-self-2.false) ] in
    then_shows c.args.self c.args.next _ e f null first (rw c.if-next.false)
