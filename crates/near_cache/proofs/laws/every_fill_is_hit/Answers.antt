use Rattle.near_cache.proofs.laws.every_fill_is_hit.Goals as goal
use Rattle.near_cache.proofs.Running.{every_fill_is_hit}

pub returns : goal.returns
returns c = every_fill_is_hit
