use Rattle.workload_gen.proofs.Heard.{known, heard}
use Rattle.workload_gen.proofs.laws.every_call_is_heard.Goals as goal

pub returns-clause-clients : goal.returns-clause-clients
returns-clause-clients c = known

pub returns-clause-calls : goal.returns-clause-calls
returns-clause-calls c = heard
