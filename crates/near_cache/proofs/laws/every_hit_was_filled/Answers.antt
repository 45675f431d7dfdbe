use Rattle.near_cache.proofs.laws.every_hit_was_filled.Goals as goal
use Rattle.near_cache.proofs.Running.{every_hit_was_filled}

pub returns : goal.returns
returns c = every_hit_was_filled
