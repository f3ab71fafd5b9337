use Rattle.std.proofs.Common.{◌≡◌, length, ap, ◌∙◌, arith}
use Rattle.faults.specs.declared.Fault.TheVariants.{Malformed}
use Rattle.codes.specs.Build.{fault}
use Rattle.codes.specs.Checked.{malformed}
use Rattle.std.proofs.lemmas.Result.{err_from_is_err_and}
use Rattle.codes.proofs.Answered.{limited_refused}
use Rattle.codes.proofs.Faulty.{build_codes, fault_first}
use Rattle.codes.proofs.Counts.{goes_on, goes_not, at_end, finish_model, finish_fault}
use Rattle.codes.proofs.check.Goals as goal

pub returns-in_err-within_limits : goal.returns-in_err-within_limits
returns-in_err-within_limits c =
    let p = err_from_is_err_and c.from_residual.result c.from_residual.ensures.1 in
    rw (p.1, p.2) (limited_refused c.args.symbols c.args.codes.now _ c.in_err-within_limits.ensures)

pub returns-in_err-tally : goal.returns-in_err-tally
returns-in_err-tally c =
    let p = err_from_is_err_and c.from_residual-in_err-tally.result c.from_residual-in_err-tally.ensures.1 in
    let e = c.in_err-tally.ensures.ok_part in
    let q : c.in_err-tally.field-0.0 ≡ Malformed c.loop-i.i = cc (rw e at c.in_err-tally.ensures.value) in
    let v = c.loop-i.invariant.0 in
    let h = rw e at (c.advance.ensures.made v.0 v.1) in
    rw (p.1, p.2, q) (malformed c.in_ok-within_limits.ensures.0 c.in_ok-within_limits.ensures.1
    (fault_first (goes_not c.args.symbols c.args.codes.now c.loop-i.i c.loop-i.tally.used v.0 (omega arith) v.2 h)))

pub loop-i-preserved : goal.loop-i-preserved
loop-i-preserved c =
    let v = c.loop-i.invariant.0 in
    let e = c.in_ok-tally.ensures.ok_part in
    let h = rw e at (c.advance.ensures.made v.0 v.1) in
    let b = rw e at c.advance.ensures.size in (
      (h.0, h.2, goes_on c.args.symbols c.args.codes.now c.loop-i.i c.loop-i.tally.used v.0 h.0 c.in_ok-tally.tally.used (omega arith) v.2 h.1),
      omega arith,
    )

pub returns-then-tally-symbols : goal.returns-then-tally-symbols
returns-then-tally-symbols c =
    let v = c.loop-i.invariant.0 in
    let one : length v.0 ≡ 1 = omega (arith, v.1) in
    let f = finish_model c.args.symbols c.loop-i.i c.loop-i.tally.used v.0 one c.if-tally-symbols.true in
    record {
      few = c.in_ok-within_limits.ensures.0;
      short = c.in_ok-within_limits.ensures.1;
      tree = f.0;
      codes = build_codes (at_end c.args.symbols c.args.codes.now c.loop-i.i c.loop-i.tally.used v.0 (omega arith) v.2 ∙ f.1);
    }

pub returns-else-tally-eq1 : goal.returns-else-tally-eq1
returns-else-tally-eq1 c =
    let v = c.loop-i.invariant.0 in
    let e : c.loop-i.i ≡ length c.args.codes.now = omega arith in
    let z : length v.0 ≡ 1 → c.loop-i.tally.used ≡ c.args.symbols → ⊥ = λ a b. omega (arith, v.1, c.else-tally-eq1.either) in
    malformed c.in_ok-within_limits.ensures.0 c.in_ok-within_limits.ensures.1
    (fault_first (at_end c.args.symbols c.args.codes.now c.loop-i.i c.loop-i.tally.used v.0 (omega arith) v.2
    ∙ finish_fault c.args.symbols c.loop-i.i c.loop-i.tally.used v.0 z
    ∙ ap fault e))
