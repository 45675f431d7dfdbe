use Rattle.near_run_laws.proofs.Runs.{every_call_says, every_event_says}
use Rattle.near_run_laws.proofs.every_event_says_what_the_machine_says.Goals as goal

pub returns : goal.returns
returns c = record { call = every_call_says; event = every_event_says }
