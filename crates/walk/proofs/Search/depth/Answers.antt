use Rattle.std.proofs.Common.{length, ap, arith}
use Rattle.walk.proofs.Traces.{last_link, traced_none, traced_short}
use Rattle.walk.proofs.Search.depth.Goals as goal

pub link-requires : goal.link-requires
link-requires g c =
    let i = c.loop-place.invariant c.requires.0 c.requires.1 in
    let s = last_link i.1 (omega arith) in
    (s.place, s.node)

pub overflow_add-count : goal.overflow_add-count
overflow_add-count g c =
    let i = c.loop-place.invariant c.requires.0 c.requires.1 in
    let s = last_link i.1 (omega arith) in
    omega (arith, i.2, s.long, traced_short c.requires.1)

pub loop-place-smaller : goal.loop-place-smaller
loop-place-smaller g c =
    let i = c.loop-place.invariant c.requires.0 c.requires.1 in
    let s = last_link i.1 (omega arith) in
    rw (c.parent-place.ensures, c.link.ensures, s.is) s.falls

pub loop-place-preserved : goal.loop-place-preserved
loop-place-preserved g c = λ v t.
    let i = c.loop-place.invariant v t in
    let s = last_link i.1 (omega arith) in
    rw (c.parent-place.ensures, c.link.ensures, s.is) (s.rest, s.traced, omega (arith, i.2, s.long))

pub returns : goal.returns
returns g c = λ v t.
    let i = c.loop-place.invariant v t in
    omega (arith, i.2, ap length (traced_none i.1 c.loop-place-test.false))
