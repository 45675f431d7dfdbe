use Rattle.queue_codecs.proofs.WaitReading.{wait_placed, wait_fits}
use Rattle.queue_codecs.proofs.laws.queue_waits_that_are_read_fit.Goals as goal

pub returns-clause-placed : goal.returns-clause-placed
returns-clause-placed c = wait_placed

pub returns-clause-fits : goal.returns-clause-fits
returns-clause-fits c = wait_fits
