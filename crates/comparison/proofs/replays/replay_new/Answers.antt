use Rattle.std.proofs.lemmas.Result.{err_from_is_err_and}
use Rattle.shelf.specs.Places.{state}
use Rattle.shelf.proofs.Refining.{new_holds}
use Rattle.comparison.specs.Runs.{request, lists, bare}
use Rattle.comparison.proofs.Running.{none_replayed}
use Rattle.comparison.proofs.replays.replay_new.Goals as goal

pub returns-in_err-replay : goal.returns-in_err-replay
returns-in_err-replay g c =
    let d = c.in_err-replay.ensures in
    let e = err_from_is_err_and c.from_residual.result c.from_residual.ensures.1 in
    rw e.1
    (none_replayed g.S.Symbol.same (request g.R.Reader.table) c.args.calls.now c.new-shelf.result c.replay.new.shelf
    (lists c.args.symbols.now c.args.numbers.now c.args.work.now c.args.word.now) (lists c.replay.new.symbols c.replay.new.numbers c.replay.new.work c.replay.new.word) c.args.answers.now c.replay.new.answers _ e.0 d.test d.replays)

pub returns : goal.returns
returns g c =
    let d = c.in_ok-replay.ensures.replays in
    record {
      fresh = c.new-shelf.result;
      empty = c.new-shelf.ensures;
      replayed = d;
      agrees = d.agrees bare (new_holds g.S.Symbol.same (state c.new-shelf.result c.args.symbols.now c.args.numbers.now) c.new-shelf.ensures);
    }
