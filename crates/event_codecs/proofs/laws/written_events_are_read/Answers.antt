use Rattle.event_codecs.proofs.Hearing.{entry_heard, invalidation_heard, rows_heard}
use Rattle.event_codecs.proofs.laws.written_events_are_read.Goals as goal

pub returns-clause-entry : goal.returns-clause-entry
returns-clause-entry c = entry_heard

pub returns-clause-invalidation : goal.returns-clause-invalidation
returns-clause-invalidation c = invalidation_heard

pub returns-clause-rows : goal.returns-clause-rows
returns-clause-rows c = rows_heard
