use Rattle.near_run_laws.proofs.Sessions.{every_get_is_heard, every_get_is_served}
use Rattle.near_run_laws.proofs.every_get_is_heard.Goals as goal

pub returns : goal.returns
returns c = record { item = every_get_is_heard; line = every_get_is_served }
