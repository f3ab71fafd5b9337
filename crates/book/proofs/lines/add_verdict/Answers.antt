use Rattle.std.proofs.Common.{ℕ, length, ap, arith}
use Rattle.std.proofs.lemmas.Fmt.{length-decimal-le}
use Rattle.std.proofs.lemmas.List.{length-append}
use Rattle.book.proofs.Shown.{forms_most}
use Rattle.book.proofs.lines.add_verdict.Goals as goal

pub add_decimal-requires : goal.add_decimal-requires
add_decimal-requires g c = omega (arith, length-append {A = ℕ}, length-decimal-le 20, ap length c.add-in-Some.ensures)

pub add-requires-in-Some-2 : goal.add-requires-in-Some-2
add-requires-in-Some-2 g c = omega (arith, length-append {A = ℕ}, length-decimal-le 20, ap length c.add-in-Some.ensures, ap length c.add_decimal.ensures)

pub add_forms-requires : goal.add_forms-requires
add_forms-requires g c =
    let m = forms_most g.P.Printable.written g.P.Printable.sized c.args.shown.now in
    omega (arith, length-append {A = ℕ}, length-decimal-le 20, ap length c.add-in-Some.ensures, ap length c.add_decimal.ensures, ap length c.add-in-Some-2.ensures)

pub add_end-requires : goal.add_end-requires
add_end-requires g c = omega (arith, length-append {A = ℕ}, length-decimal-le 20, ap length c.add-in-Some.ensures, ap length c.add_decimal.ensures, ap length c.add-in-Some-2.ensures, ap length c.add_forms.ensures, forms_most g.P.Printable.written g.P.Printable.sized c.args.shown.now)
