use Rattle.std.proofs.Common.{length, refl}
use Rattle.std.proofs.lemmas.Result.{err_from_is_err_and}
use Rattle.language.specs.Meaning.{given, body}
use Rattle.models.specs.Told.{refused, ambiguous}
use Rattle.models.proofs.Judged.{least, none, studied}
use Rattle.models.proofs.Written.{made}
use Rattle.models.proofs.study.Goals as goal

pub returns-in_err-tables : goal.returns-in_err-tables
returns-in_err-tables g c =
    let p = err_from_is_err_and c.from_residual.result c.from_residual.ensures.1 in
    rw (p.1, p.2) (refused c.in_err-tables.ensures, refl)

pub returns-in-Some : goal.returns-in-Some
returns-in-Some g c =
    let h = c.in_ok-tables.ensures in
    let m = given c.args.codes.now c.args.symbols.now in
    let n = length c.args.symbols.now in
    let t = c.in_ok-tables.tables in
    (ambiguous h.0 (least g.S.Symbol.same m t.sets t.rows h.0 h.1 h.2 c.in-Some.pair c.in-Some.ensures), refl)

pub returns-in-None : goal.returns-in-None
returns-in-None g c =
    let h = c.in_ok-tables.ensures in
    let m = given c.args.codes.now c.args.symbols.now in
    let n = length c.args.symbols.now in
    let t = c.in_ok-tables.tables in
    let old = c.args.followers.now in
    let new = c.keep.new.followers in
    studied g.S.Symbol.same m t.sets old new h.0
    (none g.S.Symbol.same m t.sets t.rows h.0 h.1 h.2 g.S.Symbol.laws c.in-None.ensures)
    (made t.sets n t.rows (body m) old new h.1 h.2 c.keep.ensures)
