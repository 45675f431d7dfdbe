use Rattle.event_codecs.proofs.Refusals.{only_unknown, only_bad, not_wanting}
use Rattle.event_codecs.proofs.laws.event_refusals_are_told_apart.Goals as goal

pub returns-clause-unknown : goal.returns-clause-unknown
returns-clause-unknown c = only_unknown

pub returns-clause-bad : goal.returns-clause-bad
returns-clause-bad c = only_bad

pub returns-clause-memory : goal.returns-clause-memory
returns-clause-memory c = not_wanting
