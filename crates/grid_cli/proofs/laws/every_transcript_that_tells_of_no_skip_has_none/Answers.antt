-- The transcript without skips follows line by line.
use Rattle.grid_cli.proofs.laws.every_transcript_that_tells_of_no_skip_has_none.Goals as goal
use Rattle.grid_cli.proofs.SkippedCalls.{every_transcript_that_tells_of_no_skip_has_none}

pub returns : goal.returns
returns c = every_transcript_that_tells_of_no_skip_has_none
