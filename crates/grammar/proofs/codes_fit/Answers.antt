use Rattle.grammar.proofs.Room.{room}
use Rattle.grammar.proofs.codes_fit.Goals as goal

pub returns : goal.returns
returns c = λ t n w ns m h. room m h
