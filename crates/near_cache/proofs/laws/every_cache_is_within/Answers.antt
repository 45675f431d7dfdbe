use Rattle.near_cache.proofs.laws.every_cache_is_within.Goals as goal
use Rattle.near_cache.proofs.Running.{every_cache_is_within}

pub returns : goal.returns
returns c = every_cache_is_within
