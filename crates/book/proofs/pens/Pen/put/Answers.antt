use Rattle.std.proofs.Common.{◌≡◌, ◌+◌, ◌-◌, ◌++◌, length, take, refl, ap, ◌∙◌, arith, rules}
use Rattle.std.proofs.lemmas.Slice.{overwrites, take-put_mid, drop-put_mid}
use Rattle.book.proofs.pens.Pen.put.Goals as goal

pub returns : goal.returns
returns c =
    let xs = c.args.self.now.out.now in
    let at = c.args.self.now.at in
    let bs = c.args.bytes.now in
    let ys = c.copy_from_slice.new.self in
    let e : ys ≡ bs = c.copy_from_slice.ensures.after in
    let l : length ys ≡ length bs = ap length e in
    record {
      same = refl;
      put = record {
        ends = refl;
        fits = omega arith;
        kept = search (rules, overwrites);
        front = take-put_mid at _ xs ys (at + length bs) (omega arith) (omega arith) ∙ ap (λ w. take at xs ++ w) e;
        rest = drop-put_mid at (at + length bs - at) xs ys (at + length bs) (omega arith) (omega arith) (omega arith);
      };
    }
