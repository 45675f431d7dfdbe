use Rattle.map_codecs.proofs.Table.{call_found}
use Rattle.map_codecs.proofs.Spelling.{call_again, sent_again}
use Rattle.map_codecs.proofs.laws.map_calls_are_read_as_spelled.Goals as goal

pub returns-clause-found : goal.returns-clause-found
returns-clause-found c = call_found

pub returns-clause-only : goal.returns-clause-only
returns-clause-only c = call_again

pub returns-clause-sent : goal.returns-clause-sent
returns-clause-sent c = sent_again
