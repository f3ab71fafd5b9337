use Rattle.std.proofs.Common.{◌≡◌, ◌≤◌, length, sym, subst, arith}
use Rattle.std.proofs.lemmas.Bool.Decides.{nat_tests}
use Rattle.std.proofs.lemmas.List.{take_all}
use Rattle.symbols.specs.NameRows.{row_bytes}
use Rattle.symbols.specs.Rule.{IsName}
use Rattle.symbols.proofs.Rows.{row_of_name}
use Rattle.symbols.proofs.names.Proper+NameRow.new.Goals as goal

pub invariant_of-result : goal.invariant_of-result
invariant_of-result c =
    let text = c.args.text.now in
    let one : 1 ≤ length text = grind (arith, nat_tests) in
    let most : length text ≤ 32 = omega arith in
    let e : row_bytes c.of.result ≡ text = rw (c.of.ensures, take_all 32 text most) (row_of_name text one most) in
    record { ok = subst IsName (sym e) (one, most, c.in-None.ensures) }

pub returns-in-None : goal.returns-in-None
returns-in-None c = let most : length c.args.text.now ≤ 32 = omega arith in rw (c.of.ensures, take_all 32 c.args.text.now most)
