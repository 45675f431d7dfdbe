-- A hello is read of its bytes, whatever follows.
use Rattle.link_frames.proofs.Questions.{apart}
use Rattle.link_frames.proofs.laws.questions_stay_apart.Goals as goal

pub returns : goal.returns
returns c = apart
