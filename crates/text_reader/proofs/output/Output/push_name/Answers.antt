use Rattle.std.proofs.Common.{ap, refl, ◌∙◌}
use Rattle.std.proofs.lemmas.List.{take_all}
use Rattle.symbols.specs.NameRows.{name_row}
use Rattle.text_reader.proofs.Outputs.{kept_name}
use Rattle.text_reader.proofs.output.Output.push_name.Goals as goal

pub returns-clause-ok : goal.returns-clause-ok
returns-clause-ok c = kept_name c.try_push.result _ _ _ _ (c.of.ensures ∙ ap name_row (take_all 32 c.args.name.now c.requires)) refl c.try_push.ensures.ok
