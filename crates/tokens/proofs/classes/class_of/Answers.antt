use Rattle.std.proofs.Common.{rules, arith}
use Rattle.std.proofs.lemmas.List.FromFn.{get_or-map-range_with_len}
use Rattle.tokens.specs.Bytes.{class_of}
use Rattle.tokens.specs.declared.types.Class.TheVariants.{NameStart}
use Rattle.tokens.proofs.classes.class_of.Goals as goal

pub returns : goal.returns
returns c = get_or-map-range_with_len class_of 0 256 c.args.b c.args.b NameStart (search rules) (omega arith)
