use Rattle.std.proofs.Common.{ℕ, length, ap, arith}
use Rattle.std.proofs.lemmas.List.{length-append}
use Rattle.book.proofs.Shown.{places_most}
use Rattle.book.proofs.lines.line.Goals as goal

pub add_places-requires : goal.add_places-requires
add_places-requires g c = omega (arith, ap length c.new-text.ensures, places_most c.args.first c.args.second (c.if-first-ge16.false, c.if-second-ge16.false))

pub add_verdict-requires-clause-room : goal.add_verdict-requires-clause-room
add_verdict-requires-clause-room g c = omega (arith, length-append {A = ℕ}, ap length c.new-text.ensures, ap length c.add_places.ensures, places_most c.args.first c.args.second (c.if-first-ge16.false, c.if-second-ge16.false))
