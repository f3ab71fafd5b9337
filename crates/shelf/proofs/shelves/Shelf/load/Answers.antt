use Rattle.std.proofs.Common.{◌≡◌, ◌+◌, ◌-◌, false, length, is_some, Some, None, Ok, Err, sym, refl, ap, ◌∙◌, subst, arith, rules}
use borrow.Rule.Slice.PartMut.{put_mid}
use Rattle.std.proofs.lemmas.List.{get_or-set_same, get_or-set_other}
use Rattle.std.proofs.lemmas.Result.{err_from_is_err_and}
use Rattle.language.specs.Meaning.{given}
use Rattle.shelf.specs.Places.{state, record_at, room}
use Rattle.shelf.specs.Calls.{Loads}
use Rattle.shelf.proofs.Cells.{put_first, put_same}
use Rattle.shelf.proofs.Refining.{first_found, load_refines, load_refused, load_ends, studied_put}
use Rattle.shelf.proofs.shelves.Shelf.load.Goals as goal

pub returns-in_err-sets : goal.returns-in_err-sets
returns-in_err-sets g c =
    let same = g.S.Symbol.same in
    let p = c.args.place in
    let from = c.in_ok-from.from in
    let k = from + 64 - from in
    let s = state c.args.self.now c.args.symbols.now c.args.numbers.now in
    let t = state c.args.self.now c.args.symbols.now (put_mid from k c.args.numbers.now c.study.new.followers) in
    let m = given c.args.codes.now c.args.model.now in
    let h = c.in_err-sets.ensures in
    let first : c.first_cell.result ≡ Some from = grind arith in
    let here = (first_found (room (length c.args.symbols.now) (length c.args.numbers.now) p) p from c.first_cell.result c.first_cell.ensures first).0 in
    let free : is_some (record_at c.args.self.now p) ≡ false = search rules in
    let r = c.from_residual-in_err-sets in
    let e = err_from_is_err_and r.result r.ensures.1 in
    let d : Loads same s p m r.result t =
    subst (λ x. Loads same s p m x t) (sym (e.1 ∙ ap Err e.2))
    (load_refused same s t p m c.in_err-sets.field-0.0 here free h.0 (record { shelf = refl; symbols = refl; numbers = put_same from k c.args.numbers.now c.study.new.followers h.1 })) in
    record { refines = load_refines same s t p m r.result d; exact = d }

pub returns-clause-exact : goal.returns-clause-exact
returns-clause-exact g c =
    let same = g.S.Symbol.same in
    let p = c.args.place in
    let from = c.in_ok-from.from in
    let records = c.args.self.now.records in
    let s = state c.args.self.now c.args.symbols.now c.args.numbers.now in
    let m = given c.args.codes.now c.args.model.now in
    let h = c.in_ok-sets.ensures in
    let first : c.first_cell.result ≡ Some from = grind arith in
    let f = first_found (room (length c.args.symbols.now) (length c.args.numbers.now) p) p from c.first_cell.result c.first_cell.ensures first in
    let free : is_some (record_at c.args.self.now p) ≡ false = search rules in
    record {
      ends = load_ends same _ _ p m (Ok tt) f.0 free (h.formed, h.clear);
      writes = studied_put same s _ p from _ m _ c.in_ok-sets.sets c.study.new.followers f.0 f.1 (omega arith) h refl refl
          (get_or-set_same records p _ None (search rules)) (λ q ne. get_or-set_other records p q _ None ne)
          (put_first p from _ c.args.symbols.now c.args.model.now _ f.1 (omega arith) c.copy_from_slice.ensures.after) refl;
    }

pub returns-clause-refines : goal.returns-clause-refines
returns-clause-refines g c =
    load_refines g.S.Symbol.same (state c.args.self.now c.args.symbols.now c.args.numbers.now) _ c.args.place (given c.args.codes.now c.args.model.now) (Ok tt) (returns-clause-exact g c)
