-- By going over the parts.
use Rattle.link_frames.proofs.Written.{written_read}
use Rattle.link_frames.proofs.laws.written_parts_are_read.Goals as goal

pub returns : goal.returns
returns c = written_read
