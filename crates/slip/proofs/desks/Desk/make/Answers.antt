use Rattle.std.proofs.Common.{◌≡◌, true, leb, map, length, ap, ◌∙◌, arith}
use Rattle.std.specs.Result.{is_ok}
use Rattle.comparison.specs.Runs.{request}
use Rattle.slip.proofs.Calling.{called}
use Rattle.slip.proofs.desks.Desk.make.Goals as goal

pub returns : goal.returns
returns g c =
    let p : is_ok c.replay-room.result ≡ true = c.replay-room.ensures.test ∙ ap (λ l. leb (length l) 1) c.from_ref.ensures.value in
    called _ _ _ _ c.replay-room.new.answers
    (λ h. record {
      symbols = omega (arith, h.symbols, c.replay-room.auto.symbols);
      numbers = omega (arith, h.numbers, c.replay-room.auto.numbers);
      work = omega (arith, h.work, c.replay-room.auto.work);
      word = omega (arith, h.word, c.replay-room.auto.word);
    })
    c.replay-room.result _ p (ap (map (request g.R.Reader.table)) c.from_ref.ensures.value) c.replay-room.ensures.replays
