use Rattle.queue_codecs.proofs.Table.{call_placed, call_fits}
use Rattle.queue_codecs.proofs.laws.queue_calls_that_are_read_fit.Goals as goal

pub returns-clause-placed : goal.returns-clause-placed
returns-clause-placed c = call_placed

pub returns-clause-fits : goal.returns-clause-fits
returns-clause-fits c = call_fits
