use Rattle.std.proofs.Common.{length}
use Rattle.std.proofs.lemmas.Result.{err_from_is_err_and}
use Rattle.language.specs.Meaning.{given}
use Rattle.models.proofs.Judged.{pair_told}
use Rattle.models.proofs.competing.Goals as goal

pub returns-in_err-tables : goal.returns-in_err-tables
returns-in_err-tables g c =
    let p = err_from_is_err_and c.from_residual.result c.from_residual.ensures.1 in
    rw (p.1, p.2) c.in_err-tables.ensures

pub returns : goal.returns
returns g c =
    let h = c.in_ok-tables.ensures in
    let m = given c.args.codes.now c.args.symbols.now in
    let n = length c.args.symbols.now in
    let t = c.in_ok-tables.tables in
    pair_told g.S.Symbol.same m t.sets t.rows h.0 h.1 h.2 g.S.Symbol.laws c.least_pair.result c.least_pair.ensures
