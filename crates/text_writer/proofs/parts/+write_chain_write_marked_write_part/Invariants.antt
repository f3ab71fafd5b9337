use Rattle.std.proofs.Common.{◌+◌, ◌*◌, length}
use Rattle.text_writer.proofs.parts.+write_chain_write_marked_write_part.Given as goal

abbrev pub decreases-write_chain : goal.decreases-write_chain
decreases-write_chain l = 2 * length l.rest.codes.now + 1

abbrev pub decreases-write_marked : goal.decreases-write_marked
decreases-write_marked l = 2 * length l.rest.codes.now + 1

abbrev pub decreases-write_part : goal.decreases-write_part
decreases-write_part l = 2 * length l.rest.codes.now
