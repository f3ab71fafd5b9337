use Rattle.tokens.proofs.Pieces.{one_piece}
use Rattle.tokens.proofs.one_piece.Goals as goal

pub returns : goal.returns
returns c = one_piece
