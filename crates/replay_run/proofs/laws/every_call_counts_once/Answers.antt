-- A call that was answered was executed, and one that was refused was not.
use Rattle.replay_run.proofs.laws.every_call_counts_once.Goals as goal
use Rattle.replay_run.proofs.CallKinds.{every_call_counts_once}

pub returns : goal.returns
returns c = every_call_counts_once
