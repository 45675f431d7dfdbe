use Rattle.workload_gen.proofs.Sizes.{short}
use Rattle.workload_gen.proofs.laws.every_script_is_short.Goals as goal

pub returns : goal.returns
returns c = short
