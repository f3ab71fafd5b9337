use Rattle.std.proofs.Common.{◌++◌, append_assoc, arith}
use Rattle.std.proofs.lemmas.Grind.{common_steps}
use Rattle.codes.specs.Tree.{postfix, leaves}
use Rattle.codes.specs.declared.code.Code.TheVariants.{Empty, Symbol, Then, Either, Optional, Star, Plus}
use Rattle.text_writer.specs.Drafts.{Left}
use Rattle.text_writer.proofs.Steps.{part_said, no_part_said, none_left}
use Rattle.text_writer.proofs.parts.+write_chain_write_marked_write_part.Goals as goal

-- the second part goes first
pub write_chain-returns-clause-said : goal.write_chain-returns-clause-said
write_chain-returns-clause-said t c a b u us l m =
    let all : Left c.args.rest ((u ++ postfix a) ++ postfix b) ((us ++ leaves a) ++ leaves b) = simp append_assoc l in
    let second = c.write_part-middle.ensures.said b (u ++ postfix a) (us ++ leaves a) all in
    let first = c.write_part-start.ensures.said a u us in
    grind (arith, common_steps, second, first)

pub write_part-returns-in_default-clause-said : goal.write_part-returns-in_default-clause-said
write_part-returns-in_default-clause-said t c = none_left c.args.rest c.args.rest c.args.place _ _ (c.in_default.ensures.cases)

pub write_part-returns-in-Err-clause-said : goal.write_part-returns-in-Err-clause-said
write_part-returns-in-Err-clause-said t c = no_part_said c.args.rest c.in-Some.codes c.in-Some.code.now c.args.place _ _ _ c.in-Some.ensures.cases.0 c.in-Err.ensures.1

pub write_part-returns-in-Ok-Empty-clause-said : goal.write_part-returns-in-Ok-Empty-clause-said
write_part-returns-in-Ok-Empty-clause-said t c = part_said c.args.rest c.in-Some.codes c.in-Some.code.now c.args.place _ _ _ c.in-Some.ensures.cases.0 Empty (rw c.in-Ok-Empty.field-0-is at c.in-Ok-Empty.ensures) (λ u us l m. grind (arith, common_steps))

pub write_part-returns-in-Ok-Symbol-clause-said : goal.write_part-returns-in-Ok-Symbol-clause-said
write_part-returns-in-Ok-Symbol-clause-said t c = part_said c.args.rest c.in-Some.codes c.in-Some.code.now c.args.place _ _ _ c.in-Some.ensures.cases.0 Symbol (rw c.in-Ok-Symbol.field-0-is at c.in-Ok-Symbol.ensures) c.write_name.ensures.said

pub write_part-returns-in-Ok-Then-clause-said : goal.write_part-returns-in-Ok-Then-clause-said
write_part-returns-in-Ok-Then-clause-said t c = part_said c.args.rest c.in-Some.codes c.in-Some.code.now c.args.place _ _ _ c.in-Some.ensures.cases.0 Then (rw c.in-Ok-Then.field-0-is at c.in-Ok-Then.ensures) c.write_chain.ensures.said

pub write_part-returns-in-Ok-Either-clause-said : goal.write_part-returns-in-Ok-Either-clause-said
write_part-returns-in-Ok-Either-clause-said t c = part_said c.args.rest c.in-Some.codes c.in-Some.code.now c.args.place _ _ _ c.in-Some.ensures.cases.0 Either (rw c.in-Ok-Either.field-0-is at c.in-Ok-Either.ensures) c.write_chain-in-Ok-Either.ensures.said

pub write_part-returns-in-Ok-Optional-clause-said : goal.write_part-returns-in-Ok-Optional-clause-said
write_part-returns-in-Ok-Optional-clause-said t c = part_said c.args.rest c.in-Some.codes c.in-Some.code.now c.args.place _ _ _ c.in-Some.ensures.cases.0 Optional (rw c.in-Ok-Optional.field-0-is at c.in-Ok-Optional.ensures) c.write_marked.ensures.said

pub write_part-returns-in-Ok-Star-clause-said : goal.write_part-returns-in-Ok-Star-clause-said
write_part-returns-in-Ok-Star-clause-said t c = part_said c.args.rest c.in-Some.codes c.in-Some.code.now c.args.place _ _ _ c.in-Some.ensures.cases.0 Star (rw c.in-Ok-Star.field-0-is at c.in-Ok-Star.ensures) c.write_marked-in-Ok-Star.ensures.said

pub write_part-returns-in-Ok-Plus-clause-said : goal.write_part-returns-in-Ok-Plus-clause-said
write_part-returns-in-Ok-Plus-clause-said t c = part_said c.args.rest c.in-Some.codes c.in-Some.code.now c.args.place _ _ _ c.in-Some.ensures.cases.0 Plus (rw c.in-Ok-Plus.field-0-is at c.in-Ok-Plus.ensures) c.write_marked-in-Ok-Plus.ensures.said
