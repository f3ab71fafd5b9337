use Rattle.std.proofs.Common.{refl, arith}
use Rattle.editor.specs.Answers.{included, not_included, first_faulty, second_faulty}
use Rattle.editor.proofs.fomurindu_verdict.Goals as goal

pub returns-in-Err : goal.returns-in-Err
returns-in-Err c = first_faulty c.in-Err.ensures (omega (arith, c.from.ensures, c.number.ensures))

pub returns-in-Err-of : goal.returns-in-Err-of
returns-in-Err-of c =
    second_faulty c.in-Ok.ensures.1 c.in-Err-of.ensures (omega (arith, c.from-in-Err-of.ensures, c.number-in-Err-of.ensures))

pub returns-then-includes : goal.returns-then-includes
returns-then-includes c =
    let p = c.in-Ok.ensures in
    let q = c.in-Ok-of.ensures in
    included p.1 q.1 (c.if-includes.ensures p.0 q.0 p.2 q.2) refl

pub returns-else-includes : goal.returns-else-includes
returns-else-includes c =
    let p = c.in-Ok.ensures in
    let q = c.in-Ok-of.ensures in
    not_included p.1 q.1 (c.if-includes.ensures p.0 q.0 p.2 q.2).1 refl
