use Rattle.std.proofs.Common.{◌-◌, length}
use Rattle.text_reader.proofs.reader.Reader.+read_names.Given as goal

abbrev pub decreases-read_names : goal.decreases-read_names
decreases-read_names l = length l.self.now.text.now - l.self.now.at
