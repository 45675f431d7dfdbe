use Rattle.map_codecs.proofs.WaitReading.{wait_found, wait_again, wait_sent}
use Rattle.map_codecs.proofs.laws.map_waits_are_read_as_spelled.Goals as goal

pub returns-clause-found : goal.returns-clause-found
returns-clause-found c = wait_found

pub returns-clause-only : goal.returns-clause-only
returns-clause-only c = wait_again

pub returns-clause-sent : goal.returns-clause-sent
returns-clause-sent c = wait_sent
