use Rattle.std.proofs.Common.{◌≤◌, arith, rules}
use Rattle.std.proofs.lemmas.Result.{err_from_is_err_and}
use Rattle.verdicts.specs.Texts.{unread}
use Rattle.verdicts.proofs.Meanings.{refused_unread}
use Rattle.editor.proofs.Kept.{read_text, read_short, kept, flawed_faulty}
use Rattle.editor.proofs.studying.Studied.of.Goals as goal

pub returns-in_err-counts : goal.returns-in_err-counts
returns-in_err-counts c =
    let p = err_from_is_err_and c.from_residual.result c.from_residual.ensures.1 in
    rw (p.1, p.2) (unread (refused_unread c.args.text.now _ _ _ (omega arith) (omega arith) c.in_err-counts.ensures.answer.0))

pub slice_bounds-study-end : goal.slice_bounds-study-end
slice_bounds-study-end c =
    let d = c.in_ok-counts.ensures.answer in
    let h : c.in_ok-counts.counts.codes ≤ 1280 = read_short _ _ _ _ _ _ d.0 d.1 d.2 in
    search rules

pub returns-in_err-sets : goal.returns-in_err-sets
returns-in_err-sets c =
    let p = err_from_is_err_and c.from_residual-in_err-sets.result c.from_residual-in_err-sets.ensures.1 in
    let d = c.in_ok-counts.ensures.answer in
    rw (p.1, p.2) (flawed_faulty c.args.text.now _ _ (read_text _ _ _ _ _ _ d.0 d.1 d.2) c.in_err-sets.ensures.0)

pub returns : goal.returns
returns c =
    let d = c.in_ok-counts.ensures.answer in
    kept _ _ _ _ _ _ d.0 d.1 d.2 _ _ _ _ (omega (arith, c.read.auto.names)) (omega arith) c.in_ok-sets.ensures
