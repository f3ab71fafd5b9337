use Rattle.std.proofs.Common.{◌+◌, ◌-◌, ◌*◌, length}
use Rattle.text_reader.proofs.reader.Reader.+read_body_read_more_read_particle.Given as goal

abbrev pub decreases-read_body : goal.decreases-read_body
decreases-read_body l = 2 * (length l.self.now.text.now - l.self.now.at) + 1

abbrev pub decreases-read_more : goal.decreases-read_more
decreases-read_more l = 2 * (length l.self.now.text.now - l.self.now.at) + 1

abbrev pub decreases-read_particle : goal.decreases-read_particle
decreases-read_particle l = 2 * (length l.self.now.text.now - l.self.now.at)
