use Rattle.verdicts.proofs.Compared.{one_verdict}
use Rattle.verdicts.proofs.one_verdict.Goals as goal

pub returns : goal.returns
returns g c = one_verdict g.S.Symbol.same g.S.Symbol.laws
