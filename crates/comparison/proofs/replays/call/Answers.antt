use Rattle.std.proofs.Common.{Ok, Err, sym, ap, ◌∙◌}
use Rattle.std.proofs.lemmas.Result.{err_from_is_err_and}
use Rattle.comparison.specs.Runs.{request, answer_of_done, answer_of_trial, answer_of_compare, load, withdraw, try, compare}
use Rattle.comparison.proofs.Running.{did_as}
use Rattle.comparison.proofs.replays.call.Goals as goal

pub returns-in_err-load-in-Load : goal.returns-in_err-load-in-Load
returns-in_err-load-in-Load g c =
    let e = err_from_is_err_and _ c.from_residual.ensures.1 in
    did_as g.S.Symbol.same (ap (request g.R.Reader.table) c.in-Load.is) (e.1 ∙ ap Err e.2 ∙ sym (ap answer_of_done c.in_err-load-in-Load.was)) (load c.load.result c.load.ensures.exact)

pub returns-in_ok-load-in-Load : goal.returns-in_ok-load-in-Load
returns-in_ok-load-in-Load g c =
    did_as g.S.Symbol.same (ap (request g.R.Reader.table) c.in-Load.is) (sym (ap answer_of_done c.in_ok-load-in-Load.was)) (load c.load.result c.load.ensures.exact)

pub returns-in_err-withdraw-in-Withdraw : goal.returns-in_err-withdraw-in-Withdraw
returns-in_err-withdraw-in-Withdraw g c =
    let e = err_from_is_err_and _ c.from_residual-in_err-withdraw-in-Withdraw.ensures.1 in
    did_as g.S.Symbol.same (ap (request g.R.Reader.table) c.in-Withdraw.is) (e.1 ∙ ap Err e.2 ∙ sym (ap answer_of_done c.in_err-withdraw-in-Withdraw.was)) (withdraw c.withdraw.result c.withdraw.ensures.exact)

pub returns-in_ok-withdraw-in-Withdraw : goal.returns-in_ok-withdraw-in-Withdraw
returns-in_ok-withdraw-in-Withdraw g c =
    did_as g.S.Symbol.same (ap (request g.R.Reader.table) c.in-Withdraw.is) (sym (ap answer_of_done c.in_ok-withdraw-in-Withdraw.was)) (withdraw c.withdraw.result c.withdraw.ensures.exact)

pub returns-in_err-trial-in-Trial : goal.returns-in_err-trial-in-Trial
returns-in_err-trial-in-Trial g c =
    let e = err_from_is_err_and _ c.from_residual-in_err-trial-in-Trial.ensures.1 in
    did_as g.S.Symbol.same (ap (request g.R.Reader.table) c.in-Trial.is) (e.1 ∙ ap Err e.2 ∙ sym (ap answer_of_trial c.in_err-trial-in-Trial.was)) (try c.trial.result c.trial.ensures.exact)

pub returns-in_ok-trial-in-Trial : goal.returns-in_ok-trial-in-Trial
returns-in_ok-trial-in-Trial g c =
    did_as g.S.Symbol.same (ap (request g.R.Reader.table) c.in-Trial.is) (ap Ok c.into.ensures ∙ sym (ap answer_of_trial c.in_ok-trial-in-Trial.was)) (try c.trial.result c.trial.ensures.exact)

pub returns-in_err-compare-in-Compare : goal.returns-in_err-compare-in-Compare
returns-in_err-compare-in-Compare g c =
    let e = err_from_is_err_and _ c.from_residual-in_err-compare-in-Compare.ensures.1 in
    did_as g.S.Symbol.same (ap (request g.R.Reader.table) c.in-Compare.is) (e.1 ∙ ap Err e.2 ∙ sym (ap answer_of_compare c.in_err-compare-in-Compare.was))
    (compare c.compare.result (g.R.Reader.sound c.in-Compare.reader.now) (g.met.R.Reader.alike c.in-Compare.reader.now) c.compare.ensures.exact)

pub returns-in_ok-compare-in-Compare : goal.returns-in_ok-compare-in-Compare
returns-in_ok-compare-in-Compare g c =
    did_as g.S.Symbol.same (ap (request g.R.Reader.table) c.in-Compare.is) (ap Ok c.into-in-Compare.ensures ∙ sym (ap answer_of_compare c.in_ok-compare-in-Compare.was))
    (compare c.compare.result (g.R.Reader.sound c.in-Compare.reader.now) (g.met.R.Reader.alike c.in-Compare.reader.now) c.compare.ensures.exact)
