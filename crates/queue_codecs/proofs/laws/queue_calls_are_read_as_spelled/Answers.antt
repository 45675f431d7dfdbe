use Rattle.queue_codecs.proofs.Table.{call_found}
use Rattle.queue_codecs.proofs.Spelling.{call_again, sent_again}
use Rattle.queue_codecs.proofs.laws.queue_calls_are_read_as_spelled.Goals as goal

pub returns-clause-found : goal.returns-clause-found
returns-clause-found c = call_found

pub returns-clause-only : goal.returns-clause-only
returns-clause-only c = call_again

pub returns-clause-sent : goal.returns-clause-sent
returns-clause-sent c = sent_again
