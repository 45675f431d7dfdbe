use Rattle.map_codecs.proofs.WaitReading.{wait_keyed, wait_whose, wait_fits}
use Rattle.map_codecs.proofs.laws.map_waits_that_are_read_fit.Goals as goal

pub returns-clause-key : goal.returns-clause-key
returns-clause-key c = wait_keyed

pub returns-clause-caller : goal.returns-clause-caller
returns-clause-caller c = wait_whose

pub returns-clause-fits : goal.returns-clause-fits
returns-clause-fits c = wait_fits
