use Rattle.std.proofs.Common.{◌≡◌, ℕ, ◌/◌, ◌%◌, ◌<◌, [], ◌∷◌, ap, ◌∙◌, arith}
use Rattle.book.specs.Books.{two_bytes}
use Rattle.book.proofs.Written.{writes_writes, writes_same}
use Rattle.book.proofs.making.put_entry.Goals as goal

high : (n : ℕ) → n < 65536 → n % 256 ∷ (n / 256) % 256 ∷ [] ≡ two_bytes n
high n h = let e : (n / 256) % 256 ≡ n / 256 = omega arith in ap (λ (b : ℕ). n % 256 ∷ b ∷ []) e

pub returns : goal.returns
returns c =
    let offset = c.to_le_bytes.ensures ∙ high c.args.offset c.requires.offset in
    let size = c.to_le_bytes-2.ensures ∙ high c.args.size c.requires.size in
    writes_writes c.args.pen.now c.put.new.self c.put-2.new.self (two_bytes c.args.offset) (two_bytes c.args.size)
    (writes_same c.args.pen.now c.put.new.self _ _ offset c.put.ensures) (writes_same c.put.new.self c.put-2.new.self _ _ size c.put-2.ensures)
