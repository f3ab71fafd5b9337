use Rattle.std.proofs.Common.{[], get_or}
use Rattle.std.proofs.lemmas.Option.{slice_get-get_or}
use Rattle.language.specs.Meaning.{given}
use Rattle.slip.proofs.Comparing.{of_verdict, finds}
use Rattle.slip.proofs.desks.Desk.compare.Goals as goal

pub missed-requires : goal.missed-requires
missed-requires c =
    of_verdict c.args.self.now c.requires.0 c.requires.1 c.args.first c.args.second (get_or c.requires.0 c.args.first (given [] [])) (get_or c.requires.0 c.args.second (given [] []))
    (slice_get-get_or c.requires.0 c.args.first (given [] []) c.requires.2) (slice_get-get_or c.requires.0 c.args.second (given [] []) c.requires.3) _
    c.reader-reader.ensures.takes c.reader-reader.ensures.states _ _ c.make.ensures

pub returns : goal.returns
returns c = λ ms m n h p q. finds c.args.self.now ms h c.args.first c.args.second m n p q _ c.reader-reader.ensures.takes c.reader-reader.ensures.states _ _ c.make.ensures c.missed.result c.missed.ensures
