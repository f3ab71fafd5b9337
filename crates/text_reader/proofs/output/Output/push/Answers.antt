use Rattle.std.proofs.Common.{refl}
use Rattle.text_reader.proofs.Outputs.{kept_code}
use Rattle.text_reader.proofs.output.Output.push.Goals as goal

pub returns : goal.returns
returns c =
    let e = c.try_push.ensures in
    kept_code c.try_push.result _ _ _ e.variant.0 (rw c.into.ensures at e.ok) e.err e.full refl
