-- By induction on the length of the text.
use Rattle.frame_codec.proofs.Spelling.{read_spelled}
use Rattle.frame_codec.proofs.laws.read_frames_are_spelled.Goals as goal

pub returns : goal.returns
returns c = λ at text bytes. read_spelled at text bytes
