use Rattle.language.proofs.Told.{local_words}
use Rattle.language.proofs.local_words.Goals as goal

pub returns : goal.returns
returns c = local_words
