use Rattle.std.proofs.Common.{◌≡◌, ℕ, ◌+◌, ◌*◌, ◌<◌, ◌≤◌, List, ◌++◌, length, drop, Err, sym, subst, arith, rules}
use Rattle.std.proofs.lemmas.Grind.{common_steps}
use Rattle.std.proofs.lemmas.List.{take_rest}
use Rattle.faults.specs.declared.Fault.TheVariants.{WrongBook}
use Rattle.book.specs.Books.{two_bytes}
use Rattle.book.specs.Entries.{count_in, Refused}
use Rattle.book.proofs.Fronts.{Front, front_none, front_cut, front_misplaced, front_long, front_more, front_all, refused_at, refused_over}
use Rattle.book.proofs.reading.Book.read.Goals as goal
use Rattle.book.proofs.reading.Book.read.Goals.{then-entry-start-via-then-entry-start, then-entry-start-via-else-entry-start+then-start-entry}

pub loop-k-init : goal.loop-k-init
loop-k-init c =
    let bytes = c.args.bytes.now in
    let one : 1 ≤ length bytes = search rules in (
      subst (λ (w : List ℕ). Front bytes 0 w (1 + 4 * c.from-count.result)) (sym (take_rest bytes 1))
          (subst (λ (n : ℕ). Front bytes 0 (drop 1 bytes) (1 + 4 * n)) (sym c.from-count.ensures) (front_none bytes one)),
      omega arith,
    )

pub returns-in_err-entry : goal.returns-in_err-entry
returns-in_err-entry c =
    let bytes = c.args.bytes.now in
    let n = c.from-count.ensures in
    let some : 1 ≤ c.from-count.result = search rules in
    let most : c.from-count.result ≤ 16 = search rules in
    let cut : length c.loop-k.entries.now < 4 = grind (arith, common_steps) in
    let e : c.from_residual.result ≡ Err (WrongBook c.loop-k.k) = grind (arith, common_steps) in
    let low : c.loop-k.k < count_in bytes = omega (arith, n, c.loop-k-test.true) in
    rw e (refused_at bytes c.loop-k.k c.if-bytes-gt-MOST_BYTES.false (omega (arith, n)) (omega (arith, n)) (front_cut bytes c.loop-k.k c.loop-k.entries.now c.loop-k.start c.loop-k.invariant.0 low cut))

pub returns-then-entry-start : goal.returns-then-entry-start
returns-then-entry-start c =
    let bytes = c.args.bytes.now in
    let k = c.loop-k.k in
    let entry = c.in_ok-entry.entry in
    let n = c.from-count.ensures in
    let some : 1 ≤ c.from-count.result = search rules in
    let most : c.from-count.result ≤ 16 = search rules in
    let low : k < count_in bytes = omega (arith, n, c.loop-k-test.true) in
    let e : c.loop-k.entries.now ≡ two_bytes entry.offset ++ (two_bytes entry.size ++ c.in_ok-entry.others.now) = grind (arith, common_steps) in
    refused_at bytes k c.if-bytes-gt-MOST_BYTES.false (omega (arith, n)) (omega (arith, n)) (
    elim c.then-entry-start.branch [
      | then-entry-start-via-then-entry-start w ↦ front_misplaced bytes k c.loop-k.entries.now c.loop-k.start c.loop-k.invariant.0 entry.offset entry.size c.in_ok-entry.others.now e low w.if-entry-start.true
      | then-entry-start-via-else-entry-start+then-start-entry w ↦ front_long bytes k c.loop-k.entries.now c.loop-k.start c.loop-k.invariant.0 entry.offset entry.size c.in_ok-entry.others.now e low w.if-start-entry.true
    ]
    )

pub loop-k-preserved : goal.loop-k-preserved
loop-k-preserved c =
    let entry = c.in_ok-entry.entry in
    let e : c.loop-k.entries.now ≡ two_bytes entry.offset ++ (two_bytes entry.size ++ c.in_ok-entry.others.now) = grind (arith, common_steps) in (
      front_more c.args.bytes.now c.loop-k.k c.loop-k.entries.now c.loop-k.start c.loop-k.invariant.0 entry.offset entry.size c.in_ok-entry.others.now e c.if-entry-start.false c.if-start-entry.false,
      omega (arith, c.if-start-entry.false, c.if-bytes-gt-MOST_BYTES.false),
    )

pub returns-then-start-bytes : goal.returns-then-start-bytes
returns-then-start-bytes c =
    let bytes = c.args.bytes.now in
    let n = c.from-count.ensures in
    let all : c.loop-k.k ≡ count_in bytes = omega (arith, n, c.loop-k-test.false) in
    let some : 1 ≤ c.from-count.result = search rules in
    let most : c.from-count.result ≤ 16 = search rules in
    let front = subst (λ (k : ℕ). Front bytes k c.loop-k.entries.now c.loop-k.start) all c.loop-k.invariant.0 in
    subst (λ (k : ℕ). Refused bytes (WrongBook k)) (sym n) (refused_over bytes c.loop-k.entries.now c.loop-k.start front c.if-bytes-gt-MOST_BYTES.false (omega (arith, n)) (omega (arith, n)) c.if-start-bytes.true)

pub invariant_of-result : goal.invariant_of-result
invariant_of-result c =
    let bytes = c.args.bytes.now in
    let n = c.from-count.ensures in
    let all : c.loop-k.k ≡ count_in bytes = omega (arith, n, c.loop-k-test.false) in
    let some : 1 ≤ c.from-count.result = search rules in
    let most : c.from-count.result ≤ 16 = search rules in
    let front = subst (λ (k : ℕ). Front bytes k c.loop-k.entries.now c.loop-k.start) all c.loop-k.invariant.0 in
    record { whole = front_all bytes c.loop-k.entries.now c.loop-k.start front c.if-start-bytes.false (omega (arith, n)) (omega (arith, n)) c.if-bytes-gt-MOST_BYTES.false }
