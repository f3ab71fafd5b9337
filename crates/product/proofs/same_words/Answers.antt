use Rattle.product.proofs.Answered.{same_words}
use Rattle.product.proofs.same_words.Goals as goal

pub returns : goal.returns
returns g c = same_words g.S.Symbol.same
