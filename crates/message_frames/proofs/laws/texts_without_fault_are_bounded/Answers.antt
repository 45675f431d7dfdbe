use Rattle.message_frames.proofs.Bounded.{texts_bounded}
use Rattle.message_frames.proofs.laws.texts_without_fault_are_bounded.Goals as goal

pub returns-clause-bound : goal.returns-clause-bound
returns-clause-bound c = texts_bounded
