use Rattle.std.proofs.Common.{refl}
use Rattle.std.proofs.lemmas.Result.{err_from_is_err_and}
use Rattle.models.proofs.Written.{made}
use Rattle.models.proofs.sets.Goals as goal

pub returns-in_err-tables : goal.returns-in_err-tables
returns-in_err-tables c =
    let p = err_from_is_err_and c.from_residual.result c.from_residual.ensures.1 in
    rw (p.1, p.2) (c.in_err-tables.ensures, refl)

pub returns : goal.returns
returns c =
    let h = c.in_ok-tables.ensures in
    let n = c.args.symbols in
    (h.0, made c.in_ok-tables.tables.sets n c.in_ok-tables.tables.rows _ c.args.followers.now c.keep.new.followers h.1 h.2 c.keep.ensures)
