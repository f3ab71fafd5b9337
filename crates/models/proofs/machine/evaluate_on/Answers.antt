use Rattle.std.proofs.Common.{◌≡◌, length, take, ap, ◌∙◌, subst, arith}
use Rattle.std.proofs.lemmas.Bool.{eq-eqb}
use Rattle.codes.specs.Build.{finish, all_used}
use Rattle.codes.proofs.Counts.{at_end}
use Rattle.models.specs.Machine.{Stack, Rows}
use Rattle.models.proofs.Stacks.{one_part}
use Rattle.models.proofs.machine.evaluate_on.Goals as goal

pub returns-then-machine-rows : goal.returns-then-machine-rows
returns-then-machine-rows c =
    let n = length c.args.rows.now in
    let i = c.loop-i.i in
    let u = c.loop-i.machine.used in
    let v = c.loop-i.invariant.0 in
    let all : u ≡ n = omega arith in
    let one = one_part c.loop-i.parts v.0 (omega arith) (subst (λ d. Stack (take d c.loop-i.parts) v.0) c.if-machine-eq1.true v.1) in
    let end = at_end n c.args.codes.now i u v.0 (omega arith) v.3 ∙ ap (λ s. finish n i s u) one.1 ∙ ap (λ b. all_used b i one.0) (eq-eqb u n all) in
    (one.0, end, one.2, subst (λ s. Rows c.loop-i.rows s) one.1 v.2)
