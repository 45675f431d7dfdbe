use Rattle.workload_gen.proofs.ReadBack.{read_back}
use Rattle.workload_gen.proofs.laws.every_script_is_read_back.Goals as goal

pub returns : goal.returns
returns c = read_back
