use Rattle.std.proofs.Common.{◌∙◌}
use Rattle.message_frames.proofs.reader.MessageReader.feed.Goals as goal

pub returns-clause-fault : goal.returns-clause-fault
returns-clause-fault c = λ prefix text stands. c.commit.ensures.fault ∙ c.in_ok-pending.ensures.fault prefix text stands
