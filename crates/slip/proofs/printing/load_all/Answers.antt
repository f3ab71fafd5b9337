use Rattle.std.proofs.Common.{◌≡◌, ◌<◌, List, ℕ, [], ◌∷◌, ◌++◌, length, get_or, Ok, Err, subst, arith, rules}
use Rattle.std.proofs.lemmas.Grind.{common_steps}
use Rattle.book.specs.Entries.{bodies_in}
use Rattle.book.proofs.Laid.{book_count}
use Rattle.slip.specs.Printed.{none}
use Rattle.slip.proofs.Wholes.{given_first, given_more, given_all, refused_body}
use Rattle.slip.specs.Desks.{Reads}
use Rattle.slip.proofs.printing.load_all.Goals as goal

pub loop-body-init : goal.loop-body-init
loop-body-init c = λ h. ([], none, h)

pub returns-in_err-map_err : goal.returns-in_err-map_err
returns-in_err-map_err c = λ h.
    let bodies = bodies_in c.args.book.now.bytes.now in
    let whole = c.args.book.now.whole in
    let k = c.loop-body.body-counter in
    let i = c.loop-body.invariant h in
    let l : k < length bodies = omega (arith, c.loop-body-test.true, c.count-body-end.ensures.value, book_count _ bodies whole) in
    let b = c.body.ensures.book bodies whole in
    let t : c.unwrap-text.result.now ≡ get_or bodies k [] = grind (arith, common_steps) in
    let r = c.load.ensures i.0 i.2 (given_first bodies k i.0 (omega arith) i.1, omega (arith, whole.most)) in
    let e : c.from_residual.result ≡ Err c.in_err-map_err.field-0.0 = search rules in
    rw e (refused_body bodies k i.0 c.load.new.self c.load.result c.map_err.result _ _ l i.1 c.map_err.ensures.cases (λ f e p. search rules) c.in_err-map_err.was (subst (λ (w : List ℕ). Reads i.0 w c.load.result c.load.new.self) t r))

pub loop-body-preserved : goal.loop-body-preserved
loop-body-preserved c = λ h.
    let bodies = bodies_in c.args.book.now.bytes.now in
    let whole = c.args.book.now.whole in
    let k = c.loop-body.body-counter in
    let i = c.loop-body.invariant h in
    let l : k < length bodies = omega (arith, c.loop-body-test.true, c.count-body-end.ensures.value, book_count _ bodies whole) in
    let b = c.body.ensures.book bodies whole in
    let t : c.unwrap-text.result.now ≡ get_or bodies k [] = grind (arith, common_steps) in
    let o : c.load.result ≡ Ok tt = grind (arith, common_steps) in
    let r = c.load.ensures i.0 i.2 (given_first bodies k i.0 (omega arith) i.1, omega (arith, whole.most)) in
    let g = rw (t, o) at r in
    (i.0 ++ g.0 ∷ [], given_more bodies k i.0 g.0 l i.1 g.1, g.2)

pub returns : goal.returns
returns c = λ h.
    let bodies = bodies_in c.args.book.now.bytes.now in
    let i = c.loop-body.invariant h in
    (i.0, given_all bodies c.loop-body.body-counter i.0 (omega (arith, c.loop-body-test.false, c.count-body-end.ensures.value, book_count _ bodies c.args.book.now.whole)) i.1, i.2)
