use Rattle.text_writer.proofs.Final.{drafted}
use Rattle.text_writer.proofs.draft_of.Goals as goal

pub returns : goal.returns
returns c x s = drafted (record { codes = c.args.codes; names = c.args.names }) c.write_part.result x c.is_bare-bare.result c.push_if.new.self c.write_part.new.draft c.push_if-2.new.self s c.is_bare-bare.ensures (rw c.new-draft.ensures at c.push_if.ensures) c.write_part.ensures.said c.push_if-2.ensures
