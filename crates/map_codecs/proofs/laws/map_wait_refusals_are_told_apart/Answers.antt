use Rattle.map_codecs.proofs.WaitReading.{only_unknown, not_wanting}
use Rattle.map_codecs.proofs.laws.map_wait_refusals_are_told_apart.Goals as goal

pub returns-clause-unknown : goal.returns-clause-unknown
returns-clause-unknown c = only_unknown

pub returns-clause-memory : goal.returns-clause-memory
returns-clause-memory c = not_wanting
