use Rattle.grammar.proofs.Built.{built}
use Rattle.grammar.proofs.gives_tree.Goals as goal

pub returns : goal.returns
returns c = λ t n d w ns m. built m
