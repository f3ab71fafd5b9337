use Rattle.std.proofs.Common.{rules, tests, subst, ◌∙◌, None}
use Rattle.std.proofs.Math.Numerals.{add-one}
use Rattle.std.proofs.lemmas.Iterator.{IsFirst-from_position, YieldsList-from_slice}
use Rattle.std.proofs.lemmas.List.{take_rest}
use Rattle.mkbook.proofs.Split.{Feed, Other, Ends, found_line, found_none, found_last}
use Rattle.mkbook.proofs.input.lines.Goals as goal
use Rattle.mkbook.proofs.input.lines.Goals.{then-not-is_empty+in_ok-push-2, else-not-is_empty}

pub loop-end-preserved : goal.loop-end-preserved
loop-end-preserved c =
    let rest = c.loop-end.rest.now in
    let ends : Ends rest c.position.result = IsFirst-from_position _ _ c.position.result Feed Other c.position.ensures.ran (YieldsList-from_slice rest c.iter.ensures.rest) (λ x q k. search (rules, tests)) (λ x q k. search (rules, tests)) in
    rw (c.in_ok-push.ensures.items, take_rest, add-one) (found_line c.loop-end.lines.items rest c.trimmed.result c.in-Some.end (subst (Ends rest) c.in-Some.is ends) c.trimmed.ensures ∙ c.loop-end.invariant)

pub returns : goal.returns
returns c =
    let rest = c.loop-end.rest.now in
    let lines = c.loop-end.lines.items in
    let last = c.trimmed-last.result in
    let ends : Ends rest c.position.result = IsFirst-from_position _ _ c.position.result Feed Other c.position.ensures.ran (YieldsList-from_slice rest c.iter.ensures.rest) (λ x q k. search (rules, tests)) (λ x q k. search (rules, tests)) in
    let none : Ends rest None = subst (Ends rest) c.in_default.is ends in
    elim c.if-not-is_empty.branch [
      | then-not-is_empty+in_ok-push-2 w ↦
          rw (w.lines-is, w.in_ok-push-2.ensures.items) (found_last lines rest last none c.trimmed-last.ensures w.if-not-is_empty.ensures ∙ c.loop-end.invariant)
      | else-not-is_empty w ↦
          rw w.lines-is (found_none lines rest last none c.trimmed-last.ensures w.if-not-is_empty.ensures ∙ c.loop-end.invariant)
    ]
