use Rattle.shelf.proofs.Contents.{one_content}
use Rattle.shelf.proofs.laws.one_content.Goals as goal

pub returns : goal.returns
returns g c = one_content g.S.Symbol.same g.S.Symbol.laws
