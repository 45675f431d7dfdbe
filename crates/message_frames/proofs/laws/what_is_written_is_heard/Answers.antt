use Rattle.message_frames.proofs.Written.{written_message_heard, fragments_heard}
use Rattle.message_frames.proofs.laws.what_is_written_is_heard.Goals as goal

pub returns-clause-message : goal.returns-clause-message
returns-clause-message c = written_message_heard

pub returns-clause-fragments : goal.returns-clause-fragments
returns-clause-fragments c = fragments_heard
