use Rattle.std.proofs.Common.{sym, subst, rules}
use Rattle.editor.specs.Tabled.{Says}
use Rattle.editor.proofs.Judged.{told_by_sets}
use Rattle.editor.proofs.including.includes_over.Goals as goal

pub returns : goal.returns
returns c m n p q =
    subst (Says m n) (sym c.is_included.ensures)
    (told_by_sets c.args.first.now c.args.second.now m n p q c.match_names-matched.result (search rules) c.match_names-matched.ensures _ _ _ _ _ c.requires.work c.requires.word
    c.compare_tables.ensures.exact)
