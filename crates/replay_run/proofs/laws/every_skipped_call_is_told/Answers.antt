-- A call that is skipped is told of as it arrives, and what was told stays.
use Rattle.replay_run.proofs.laws.every_skipped_call_is_told.Goals as goal
use Rattle.replay_run.proofs.Skipped.{every_skipped_call_is_told}

pub returns : goal.returns
returns c = every_skipped_call_is_told
