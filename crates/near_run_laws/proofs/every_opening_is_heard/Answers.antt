use Rattle.near_run_laws.proofs.Sessions.{every_opening_is_heard, every_opening_is_served}
use Rattle.near_run_laws.proofs.every_opening_is_heard.Goals as goal

pub returns : goal.returns
returns c = record { items = every_opening_is_heard; line = every_opening_is_served }
