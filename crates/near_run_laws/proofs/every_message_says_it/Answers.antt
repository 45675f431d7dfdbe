use Rattle.near_run_laws.proofs.Speaking.{every_message_says_it}
use Rattle.near_run_laws.proofs.every_message_says_it.Goals as goal

pub returns : goal.returns
returns c = every_message_says_it
