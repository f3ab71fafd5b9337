use Rattle.std.proofs.Common.{◌≡◌, min, length, ap, arith}
use Rattle.std.proofs.lemmas.List.{take_min}
use Rattle.symbols.specs.NameRows.{name_row}
use Rattle.symbols.proofs.name_rows.NameRow.of.Goals as goal

pub returns : goal.returns
returns c =
    let text = c.args.text.now in
    let m : c.min.result ≡ min 32 (length text) = omega arith in
    rw (c.padded.ensures, m) (ap name_row (take_min 32 text))
