use Rattle.std.proofs.Common.{ℕ, ◌∷◌, length, ap, ◌∙◌, arith}
use Rattle.std.proofs.lemmas.List.{length-append}
use Rattle.std.proofs.lemmas.List.Folds.{length-flat_map-take}
use Rattle.book.proofs.lines.add_forms.Goals as goal

pub add-requires : goal.add-requires
add-requires g c =
    let part = length-flat_map-take (λ s. 32 ∷ g.P.Printable.written s) c.args.symbols.now c.loop-symbol.symbol-index c.symbol-item.result c.loop-symbol-test.true in
    omega (arith, length-append {A = ℕ}, c.requires, ap length c.loop-symbol.invariant)

pub add-requires-in-loop-symbol : goal.add-requires-in-loop-symbol
add-requires-in-loop-symbol g c =
    let part = length-flat_map-take (λ s. 32 ∷ g.P.Printable.written s) c.args.symbols.now c.loop-symbol.symbol-index c.symbol-item.result c.loop-symbol-test.true in
    let form = ap length (c.text.ensures ∙ c.written.ensures ∙ ap g.P.Printable.written c.symbol-item.is) in
    omega (arith, length-append {A = ℕ}, c.requires, ap length c.loop-symbol.invariant, ap length c.add.ensures)
