use Rattle.std.proofs.Common.{◌≡◌, min, ap, ◌∙◌, arith}
use lib.Bits.{bit_and}
use Rattle.tables.specs.Places.{row_of}
use Rattle.editor.specs.Matching.{lowest}
use Rattle.editor.proofs.Matched.{after_row, match_goes}
use Rattle.editor.proofs.matching.MatchReaderReaderNamesakes.step.Goals as goal

pub returns : goal.returns
returns c =
    let r = c.args.self.now in
    let e : c.min-count.result ≡ min 64 r.count = omega (arith, c.min-count.ensures) in
    c.lowest_position.ensures ∙ ap (λ row. lowest (min 64 r.count) 0 (bit_and row c.args.symbol.now.positions)) (c.next_positions-next.ensures ∙ after_row r.sets r.followers.now _ c.args.state ∙ ap (λ n. row_of r.sets.first r.followers.now n c.args.state) e) ∙ match_goes r.sets r.followers.now r.count c.args.state c.args.symbol.now
