use Rattle.std.proofs.Common.{map, refl, ◌∙◌}
use Rattle.std.proofs.lemmas.List.{length-map}
use Rattle.std.proofs.lemmas.Result.{err_from_is_err_and}
use Rattle.symbols.specs.NameRows.{row_bytes}
use Rattle.text_writer.specs.Writes.{ill_formed, empty_part, no_name, too_deep}
use Rattle.text_writer.proofs.Final.{sayable_of, finished}
use Rattle.text_writer.proofs.write.Goals as goal

pub returns-in_err-check : goal.returns-in_err-check
returns-in_err-check c =
    let p = err_from_is_err_and c.from_residual.result c.from_residual.ensures.1 in
    rw (p.1, p.2) (ill_formed {f = c.in_err-check.field-0.0} (rw length-map c.in_err-check.ensures), refl)

pub returns-in_err-check_parts : goal.returns-in_err-check_parts
returns-in_err-check_parts c =
    let p = err_from_is_err_and c.from_residual-in_err-check_parts.result c.from_residual-in_err-check_parts.ensures.1 in
    let f = c.in_err-check_parts.ensures in
    rw (p.1, p.2, f.1) (empty_part (rw length-map c.in_ok-check.ensures) f.2, refl)

pub returns-in_err-check_names : goal.returns-in_err-check_names
returns-in_err-check_names c =
    let p = err_from_is_err_and c.from_residual-in_err-check_names.result c.from_residual-in_err-check_names.ensures.1 in
    let f = c.in_err-check_names.ensures in
    rw (p.1, p.2, f.1) (no_name (rw length-map c.in_ok-check.ensures) c.in_ok-check_parts.ensures f.2, refl)

pub returns-in_err-check_levels : goal.returns-in_err-check_levels
returns-in_err-check_levels c =
    let p = err_from_is_err_and c.from_residual-in_err-check_levels.result c.from_residual-in_err-check_levels.ensures.1 in
    let f = c.in_err-check_levels.ensures in
    let x = sayable_of c.args.codes.now (map row_bytes c.args.names.now) (rw length-map c.in_ok-check.ensures) c.in_ok-check_parts.ensures c.in_ok-check_names.ensures in
    let e = c.text-text.ensures ∙ c.draft_of-draft.ensures x.0 x.1 in
    rw (p.1, p.2, f.1) (too_deep x.1 (rw e at f.2), refl)

pub returns : goal.returns
returns c =
    let x = sayable_of c.args.codes.now (map row_bytes c.args.names.now) (rw length-map c.in_ok-check.ensures) c.in_ok-check_parts.ensures c.in_ok-check_names.ensures in
    let e = c.text-text.ensures ∙ c.draft_of-draft.ensures x.0 x.1 in
    finished c.args.codes.now c.args.names.now x.0 c.text-text.result.now c.args.out.now c.copy_text.new.out c.copy_text.result x.1 e c.in_ok-check_levels.ensures c.copy_text.ensures
