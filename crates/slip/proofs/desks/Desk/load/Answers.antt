use Rattle.std.proofs.Common.{sym, arith}
use Rattle.std.proofs.lemmas.List.{length-take-le}
use Rattle.std.proofs.lemmas.Result.{err_from_is_err_and}
use Rattle.slip.proofs.Loading.{unread_reads, codes_fit, text_of, puts_reads}
use Rattle.slip.proofs.desks.Desk.load.Goals as goal

pub returns-in_err-counts : goal.returns-in_err-counts
returns-in_err-counts c = λ ms h n.
    let p = err_from_is_err_and c.from_residual.result c.from_residual.ensures.1 in
    unread_reads ms _ _ _ _ _ _ _ _ _ p.1 p.2 (omega arith) (omega arith) c.in_err-counts.ensures.answer

pub slice_bounds-put-end : goal.slice_bounds-put-end
slice_bounds-put-end c = let f = codes_fit _ _ _ _ _ _ c.in_ok-counts.ensures.answer in sym (length-take-le c.in_ok-counts.counts.codes c.read.new.codes f)

pub returns : goal.returns
returns c = λ ms h n. puts_reads ms _ _ _ _ (text_of _ _ _ _ _ _ c.in_ok-counts.ensures.answer) (c.put.ensures ms h n)
