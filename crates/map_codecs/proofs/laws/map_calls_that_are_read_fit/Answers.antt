use Rattle.map_codecs.proofs.Table.{call_keyed, call_whose, call_fits}
use Rattle.map_codecs.proofs.laws.map_calls_that_are_read_fit.Goals as goal

pub returns-clause-key : goal.returns-clause-key
returns-clause-key c = call_keyed

pub returns-clause-caller : goal.returns-clause-caller
returns-clause-caller c = call_whose

pub returns-clause-fits : goal.returns-clause-fits
returns-clause-fits c = call_fits
