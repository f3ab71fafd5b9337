use Rattle.std.proofs.Common.{◌≡◌, ◌<◌, length, set, Ok, refl, arith, rules, is_some, None}
use Rattle.std.proofs.lemmas.List.{get_or-set_same, get_or-set_other}
use Rattle.shelf.specs.Places.{state, record_at, room}
use Rattle.shelf.specs.Calls.{Withdraws}
use Rattle.shelf.proofs.Refining.{room_below, stood, withdraw_refines}
use Rattle.shelf.proofs.shelves.Shelf.withdraw.Goals as goal

pub returns : goal.returns
returns g c =
    let p = c.args.place in
    let records = c.args.self.now.records in
    let s = state c.args.self.now c.args.symbols.now c.args.numbers.now in
    let t = state (record { records = set records p None }) c.args.symbols.now c.args.numbers.now in
    let here = (stood (room (length c.args.symbols.now) (length c.args.numbers.now) p) (is_some (record_at c.args.self.now p)) p c.in_ok-stand.field-0 c.in_ok-stand.ensures.exact).0 in
    let below = room_below (length c.args.symbols.now) (length c.args.numbers.now) p here in
    let long : 16 ≡ length records = search rules in
    let lt : p < length records = omega arith in
    let d : Withdraws s p (Ok tt) t = record {
      ends = c.in_ok-stand.ensures.exact;
      writes = record {
        here = get_or-set_same records p None None lt;
        others = λ q ne. get_or-set_other records p q None None ne;
        symbols = refl;
        numbers = refl;
      };
    } in
    record { refines = withdraw_refines g.S.Symbol.same s t p (Ok tt) d; exact = d }
