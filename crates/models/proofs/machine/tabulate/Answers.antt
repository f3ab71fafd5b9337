use Rattle.std.proofs.Common.{◌≡◌, length, ◌∙◌}
use Rattle.std.proofs.lemmas.Result.{err_from_is_err_and}
use Rattle.codes.specs.Checked.{malformed}
use Rattle.codes.proofs.Answered.{limited_refused}
use Rattle.codes.proofs.Faulty.{build_codes, fault_first}
use Rattle.language.specs.Meaning.{tree_of}
use Rattle.models.proofs.Tellings.{built_sets, front_sets, zeros, zeros_length}
use Rattle.models.proofs.machine.tabulate.Goals as goal

pub returns-in_err-within_limits : goal.returns-in_err-within_limits
returns-in_err-within_limits c =
    let p = err_from_is_err_and c.from_residual.result c.from_residual.ensures.1 in
    rw (p.1, p.2) (limited_refused c.args.symbols c.args.codes.now _ c.in_err-within_limits.ensures)

pub evaluate-requires-clause-zero : goal.evaluate-requires-clause-zero
evaluate-requires-clause-zero c x = zeros 64 c.args.symbols x

pub returns-in_err-sets : goal.returns-in_err-sets
returns-in_err-sets c =
    let n = c.args.symbols in
    let p = err_from_is_err_and c.from_residual-in_err-sets.result c.from_residual-in_err-sets.ensures.1 in
    let h = c.in_err-sets.ensures in
    let l = zeros_length n c.in_ok-within_limits.ensures.0 in
    rw (p.1, p.2, h.1)
    (malformed c.in_ok-within_limits.ensures.0 c.in_ok-within_limits.ensures.1 (fault_first (rw l at h.2)))

pub returns : goal.returns
returns c =
    let n = c.args.symbols in
    let h = c.in_ok-sets.ensures in
    let l = zeros_length n c.in_ok-within_limits.ensures.0 in
    let b = rw l at h.1 in
    let rs = c.evaluate.new.rows in
    let even : length rs ≡ n = c.evaluate.auto.rows ∙ l in
    let f = front_sets n (tree_of n c.args.codes.now) c.in_ok-sets.sets rs _ even (built_sets n c.args.codes.now h.0 c.in_ok-sets.sets rs b even h.2 h.3) in
    (record { few = c.in_ok-within_limits.ensures.0; short = c.in_ok-within_limits.ensures.1; tree = h.0; codes = build_codes b }, f.0, f.1)
