use Rattle.std.proofs.Common.{◌≡◌, ◌+◌, ◌<◌, [], true, false, length, get_or, sym, subst, arith}
use Rattle.symbols.specs.NameRows.{name_same}
use Rattle.symbols.specs.declared.name_rows.NameRow.{NameRow}
use Rattle.editor.specs.Tabled.{names_of}
use Rattle.editor.proofs.Marking.{few_names, MarkedTo, none_yet, passed, found}
use Rattle.editor.proofs.matching.find_namesakes.Goals as goal
use Rattle.editor.proofs.matching.find_namesakes.Goals.{then-same, else-same}

pub loop-k-preserved : goal.loop-k-preserved
loop-k-preserved c =
    let k = c.loop-k.k in
    let name = c.args.name.now in
    let names = names_of c.args.model.now in
    let blank : NameRow = record { bytes = []; len = 0 } in
    let q = c.names-other-items.ensures in
    let inside : k < length names = subst (λ xs. k < length xs) q c.loop-k-test.true in
    elim c.if-same.branch [
      | then-same w ↦ subst (λ p. MarkedTo (k + 1) p name names) (sym w.positions-is)
          (found k c.loop-k.positions name names c.loop-k.invariant inside blank (omega (arith, inside, few_names c.args.model.now)) (subst (λ xs. name_same (get_or xs k blank) name ≡ true) q (sym w.if-same.ensures)))
      | else-same w ↦ subst (λ p. MarkedTo (k + 1) p name names) (sym w.positions-is)
          (passed k c.loop-k.positions name names c.loop-k.invariant inside blank (subst (λ xs. name_same (get_or xs k blank) name ≡ false) q (sym w.if-same.ensures)))
    ]

pub loop-k-init : goal.loop-k-init
loop-k-init c = none_yet c.args.name.now (names_of c.args.model.now)
