use Rattle.near_run_laws.proofs.Maps.{every_map_is_keyed}
use Rattle.near_run_laws.proofs.every_map_is_keyed.Goals as goal

pub returns : goal.returns
returns c = every_map_is_keyed
