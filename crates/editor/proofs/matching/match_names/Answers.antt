use Rattle.std.proofs.Common.{◌<◌, [], length, get_or, subst, ◌∙◌, arith, length-set}
use Rattle.symbols.specs.declared.name_rows.NameRow.{NameRow}
use Rattle.editor.specs.Matching.{Marks}
use Rattle.editor.specs.Tabled.{names_of}
use Rattle.editor.proofs.Marking.{few_names, one_more}
use Rattle.editor.proofs.matching.match_names.Goals as goal

pub loop-j-preserved : goal.loop-j-preserved
loop-j-preserved c =
    let h = c.loop-j.invariant in
    let j = c.loop-j.j in
    let names = names_of c.args.second.now in
    let blank : NameRow = record { bytes = []; len = 0 } in
    let q = c.names-name-items.ensures in
    let inside : j < length (names_of c.args.first.now) = subst (λ xs. j < length xs) q c.loop-j-test.true in (
      length-set c.loop-j.sets j c.find_namesakes.result ∙ h.0,
      one_more j c.loop-j.sets (names_of c.args.first.now) names c.find_namesakes.result blank h.1 (omega (arith, h.0, inside, few_names c.args.first.now)) inside
          (subst (λ xs. Marks c.find_namesakes.result.positions (get_or xs j blank) names) q c.find_namesakes.ensures),
    )
