use Rattle.std.proofs.Common.{arith}
use Rattle.book.specs.Entries.{bodies_in}
use Rattle.book.proofs.Laid.{book_count}
use Rattle.slip.specs.Printed.{compared}
use Rattle.slip.proofs.Wholes.{given_length, printed_refused, refused_load}
use Rattle.slip.proofs.printing.slip_of_book.Goals as goal

pub lines-requires : goal.lines-requires
lines-requires c =
    let book = c.args.book.now in
    let bodies = bodies_in book.bytes.now in
    let l = c.in-Ok.ensures c.new-desk.ensures in
    let n = given_length bodies l.0 l.1 in
    let some = book_count book.bytes.now bodies book.whole in
    (l.0, l.2, omega (arith, n, some, c.count.ensures.value), omega (arith, book.whole.some, n, some, c.count.ensures.value))

pub returns-in_ok-text-in-Ok : goal.returns-in_ok-text-in-Ok
returns-in_ok-text-in-Ok c =
    let book = c.args.book.now in
    let bodies = bodies_in book.bytes.now in
    let l = c.in-Ok.ensures c.new-desk.ensures in
    compared book.whole l.1 (c.in_ok-text-in-Ok.ensures l.0 l.2 (omega (arith, given_length bodies l.0 l.1, book_count book.bytes.now bodies book.whole, c.count.ensures.value)))

pub returns-in-Err : goal.returns-in-Err
returns-in-Err c =
    let book = c.args.book.now in
    printed_refused book.bytes.now _ (λ s. s.text.items) (λ s. s.whole) c.refused.result
    (refused_load book.bytes.now _ c.load_all.new.desk book.whole (c.in-Err.ensures c.new-desk.ensures)) c.refused.ensures
