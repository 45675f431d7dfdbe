use Rattle.near_run_laws.proofs.Clients.{every_message_is_heard}
use Rattle.near_run_laws.proofs.every_message_is_heard.Goals as goal

pub returns : goal.returns
returns c = every_message_is_heard
