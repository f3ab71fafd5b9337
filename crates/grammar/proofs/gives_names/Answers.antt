use Rattle.grammar.proofs.Names.{names_are}
use Rattle.grammar.proofs.gives_names.Goals as goal

pub returns : goal.returns
returns c = λ t d w ns m. names_are m
