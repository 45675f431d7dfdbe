-- By induction on the frames.
use Rattle.frame_codec.proofs.Spelling.{written_read}
use Rattle.frame_codec.proofs.laws.written_frames_are_read.Goals as goal

pub returns : goal.returns
returns c = λ at frames rest limits none. written_read at frames rest limits none
