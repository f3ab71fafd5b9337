use Rattle.std.proofs.Common.{sym, refl, arith}
use Rattle.std.proofs.lemmas.Bool.{both_ways}
use Rattle.models.specs.Stepping.{can_end}
use Rattle.language.proofs.Reading.{goes_within, leads_word, ends_not, stuck_longest, whole_longest, leads_on, leads_all}
use Rattle.models.proofs.Automata.{may_goes, goes_may, ends_end, end_ends}
use Rattle.models.proofs.automaton.Automaton.trial.Goals as goal

pub loop-i-init : goal.loop-i-init
loop-i-init g c m t = (refl, omega arith)

pub loop-i-preserved : goal.loop-i-preserved
loop-i-preserved g c m t =
    let same = g.S.Symbol.same in
    let v = c.loop-i.invariant m t in
    let a = c.index-word-i.result in
    let p = may_goes same c.args.self.now.sets c.args.self.now.followers.now c.args.self.now.symbols.now m t c.loop-i.state c.in-Some.next a v.1 c.in-Some.ensures.0 in (
      leads_on same m c.args.word.now c.loop-i.i c.loop-i.state c.in-Some.next a c.loop-i-test.true c.index-word-i.is v.0 p,
      goes_within same m t.formed c.loop-i.state c.in-Some.next a p,
    )

pub returns-in-None : goal.returns-in-None
returns-in-None g c m t =
    let same = g.S.Symbol.same in
    let v = c.loop-i.invariant m t in
    let a = c.index-word-i.result in
    stuck_longest same m t.formed g.S.Symbol.laws t.clear c.args.word.now c.loop-i.i c.loop-i.state a c.loop-i-test.true c.index-word-i.is v.0
    (λ y p. c.in-None.ensures y (goes_may same c.args.self.now.sets c.args.self.now.followers.now c.args.self.now.symbols.now m t c.loop-i.state y a v.1 p))

pub returns-then-may_end : goal.returns-then-may_end
returns-then-may_end g c m t =
    let same = g.S.Symbol.same in
    let v = c.loop-i.invariant m t in
    let w = c.args.word.now in
    let x = c.loop-i.state in
    leads_word same m t.formed w x (leads_all same m w c.loop-i.i x (omega arith) v.0)
    (ends_end same c.args.self.now.sets c.args.self.now.followers.now c.args.self.now.symbols.now m t x v.1 (sym c.if-may_end.ensures))

pub returns-else-may_end : goal.returns-else-may_end
returns-else-may_end g c m t =
    let same = g.S.Symbol.same in
    let laws = g.S.Symbol.laws in
    let v = c.loop-i.invariant m t in
    let w = c.args.word.now in
    let x = c.loop-i.state in
    let l = leads_all same m w c.loop-i.i x (omega arith) v.0 in (
      ends_not same m t.formed laws t.clear w x l
          (λ e. both_ways (can_end c.args.self.now.sets x) (sym c.if-may_end.ensures) (end_ends same c.args.self.now.sets c.args.self.now.followers.now c.args.self.now.symbols.now m t x v.1 e)),
      whole_longest same m t.formed laws t.clear w x l,
    )
