use Rattle.event_codecs.proofs.EventReading.{found}
use Rattle.event_codecs.proofs.EventSpelling.{read_again}
use Rattle.event_codecs.proofs.laws.events_are_read_as_spelled.Goals as goal

pub returns-clause-found : goal.returns-clause-found
returns-clause-found c = found

pub returns-clause-only : goal.returns-clause-only
returns-clause-only c = read_again
