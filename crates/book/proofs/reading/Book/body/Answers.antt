use Rattle.std.proofs.Common.{◌≡◌, ◌+◌, ◌-◌, ◌*◌, ◌≤◌, ◌++◌, length, take, drop, sym, ap, ◌∙◌, arith}
use Rattle.std.proofs.lemmas.Grind.{common_steps}
use Rattle.std.proofs.lemmas.List.{take_rest, length-drop}
use Rattle.book.specs.Books.{two_bytes}
use Rattle.book.proofs.Laid.{entry_says, book_held, book_given, part_given}
use Rattle.book.proofs.reading.Book.body.Goals as goal

pub slice_bounds-first_entry-count : goal.slice_bounds-first_entry-count
slice_bounds-first_entry-count c =
    let held = book_held c.args.self.now.bytes.now c.args.self.now.whole c.args.k (omega (arith, c.count.ensures.value)) in
    omega (arith, held.1)

pub slice_bounds-first_entry-start : goal.slice_bounds-first_entry-start
slice_bounds-first_entry-start c =
    let held = book_held c.args.self.now.bytes.now c.args.self.now.whole c.args.k (omega (arith, c.count.ensures.value)) in
    omega (arith, held.1)

pub unwrap-requires : goal.unwrap-requires
unwrap-requires c =
    let bytes = c.args.self.now.bytes.now in
    let at = 1 + 4 * c.args.k in
    let held = book_held bytes c.args.self.now.whole c.args.k (omega (arith, c.count.ensures.value)) in
    let there : 4 ≤ length (take (length bytes - at) (drop at bytes)) = omega (arith, held.1, ap length (take_rest bytes at), length-drop at bytes) in
    grind (arith, common_steps)

pub returns : goal.returns
returns c =
    let bytes = c.args.self.now.bytes.now in
    let k = c.args.k in
    let entry = c.unwrap.result.0 in
    let held = book_held bytes c.args.self.now.whole k (omega (arith, c.count.ensures.value)) in
    let e : take (length bytes - (1 + 4 * k)) (drop (1 + 4 * k) bytes) ≡ two_bytes entry.offset ++ (two_bytes entry.size ++ c.unwrap.result.1.now) = grind (arith, common_steps) in
    let says = entry_says bytes k entry.offset entry.size c.unwrap.result.1.now (sym (take_rest bytes (1 + 4 * k)) ∙ e) in
    let given = part_given bytes k _ _ c.get.result c.get.ensures.lookup held (omega (arith, says.places)) (omega (arith, says.places, says.sizes)) in
    record { given = given; book = λ bodies b. book_given bytes bodies b k c.get.result given }
