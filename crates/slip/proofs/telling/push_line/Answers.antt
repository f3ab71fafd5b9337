use Rattle.slip.proofs.Spelling.{line_written}
use Rattle.slip.proofs.telling.push_line.Goals as goal

pub unwrap-size-requires : goal.unwrap-size-requires
unwrap-size-requires c = line_written c.args.first c.args.second c.args.missed c.args.symbols.now c.line.result _ _ c.requires.places c.requires.short c.requires.enough c.line.ensures
