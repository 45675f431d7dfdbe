-- Each of them by what was read and what is left.
use Rattle.grid_cli.proofs.MemoryScripts.{holds_in_memory}
use Rattle.grid_cli.proofs.laws.every_claim_holds_in_memory.Goals as goal

pub returns : goal.returns
returns c = λ forms status. (holds_in_memory _, holds_in_memory _, holds_in_memory _, holds_in_memory _, holds_in_memory _)
