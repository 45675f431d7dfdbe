-- It is the law of the lemmas.
use Rattle.masters_run.proofs.laws.every_skipped_call_is_told.Goals as goal
use Rattle.masters_run.proofs.RuledSkips.{every_skipped_call_is_told}

pub returns : goal.returns
returns c = every_skipped_call_is_told
