use Rattle.std.proofs.Common.{◌≡◌, ◌||◌}
use Rattle.models.proofs.Bitsets.{either_shows}
use Rattle.models.proofs.tables.Sets.or.Goals as goal
use Rattle.models.proofs.tables.Sets.or.Goals.{then-self, else-self}

pub returns : goal.returns
returns c e f p q =
    let null : c.if-self.result ≡ (c.args.self.nullable || c.args.other.nullable) =
    elim c.if-self.branch [ then-self w ↦ rw (w.result-is, w.if-self.true) | else-self w ↦ rw (w.result-is, w.if-self.false) ] in
    rw null (either_shows c.args.self c.args.other e f p q)
