use Rattle.std.proofs.Common.{◌≡◌, true, leb, map, length, ap, ◌∙◌, rules}
use Rattle.std.specs.Result.{is_ok}
use Rattle.std.proofs.lemmas.List.{with_items_is, places}
use Rattle.symbols.specs.CueRows.{cue_same}
use Rattle.comparison.specs.Runs.{request}
use Rattle.comparison.proofs.Single.{made}
use Rattle.script.specs.Benches.{memory_of}
use Rattle.script.proofs.bench.Bench.make.Goals as goal

pub returns : goal.returns
returns g c =
    let b = c.args.self.now in
    let r = c.replay-room.new in
    let p : is_ok c.replay-room.result ≡ true = c.replay-room.ensures.test ∙ ap (λ l. leb (length l) 1) c.from_ref.ensures.value in
    let h = rw (c.deref_mut.ensures.value, c.deref_mut-2.ensures.value, c.deref_mut-3.ensures.value, c.deref_mut-4.ensures.value) at c.replay-room.ensures.replays in
    rw (with_items_is b.symbols r.symbols (search (rules, places)), with_items_is b.numbers r.numbers (search (rules, places)), with_items_is b.work r.work (search (rules, places)), with_items_is b.word r.word (search (rules, places)))
    (made cue_same (memory_of b) _ (request g.R.Reader.table c.args.call.now) _ r.answers c.replay-room.result _ p (ap (map (request g.R.Reader.table)) c.from_ref.ensures.value) h)
