use Rattle.std.proofs.Common.{rules}
use Rattle.symbols.proofs.name_bytes.first_wrong.Goals as goal

pub returns : goal.returns
returns c = search rules
