use Rattle.std.proofs.Common.{ℕ, ◌+◌, ◌*◌, ◌++◌, length, take, sym, ap, ◌∙◌, arith}
use Rattle.std.proofs.lemmas.List.{length-take}
use Rattle.book.specs.Books.{two_bytes, entries_from}
use Rattle.book.specs.Makings.{contents}
use Rattle.book.proofs.Laid.{length-entries, length-book}
use Rattle.book.proofs.Written.{writes_writes, writes_same, content, entries_more, length-contents, length_together_more, together_most}
use Rattle.book.proofs.making.put_entries.Goals as goal

pub put_entry-requires : goal.put_entry-requires
put_entry-requires c =
    let bodies = c.args.bodies.now in
    let i = c.loop-body.body-index in
    let n = length-contents bodies in
    let book = length-book (contents bodies) in
    let more = length_together_more bodies i c.loop-body-test.true in
    let most = together_most (contents bodies) (i + 1) in
    let there = length-entries (1 + 4 * length bodies) (take i (contents bodies)) in
    let first = length-take i (contents bodies) in
    record {
      room = omega (arith, c.requires.room, c.loop-body.invariant.0.put.ends, c.loop-body.invariant.0.put.kept);
      offset = omega (arith, c.requires.short, c.loop-body.invariant.1);
      size = omega (arith, c.requires.short);
    }

pub overflow_add-offset-in-loop-body : goal.overflow_add-offset-in-loop-body
overflow_add-offset-in-loop-body c =
    let bodies = c.args.bodies.now in
    let i = c.loop-body.body-index in
    let book = length-book (contents bodies) in
    let more = length_together_more bodies i c.loop-body-test.true in
    let most = together_most (contents bodies) (i + 1) in
    omega (arith, length-contents bodies, c.requires.short, c.loop-body.invariant.1)

pub loop-body-preserved : goal.loop-body-preserved
loop-body-preserved c =
    let bodies = c.args.bodies.now in
    let i = c.loop-body.body-index in
    let from = 1 + 4 * length bodies in
    let before = entries_from from (take i (contents bodies)) in
    let body = content bodies i c.loop-body-test.true in
    let more = length_together_more bodies i c.loop-body-test.true in (
      writes_same c.args.pen.now c.put_entry.new.pen _ _
          (ap (λ (n : ℕ). before ++ (two_bytes n ++ two_bytes (length body))) c.loop-body.invariant.1 ∙ sym (entries_more bodies i c.loop-body-test.true from))
          (writes_writes c.args.pen.now c.loop-body.pen c.put_entry.new.pen before (two_bytes c.loop-body.offset ++ two_bytes (length body)) c.loop-body.invariant.0 c.put_entry.ensures),
      omega (arith, c.loop-body.invariant.1),
    )
