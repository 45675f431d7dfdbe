use Rattle.live_history_laws.proofs.Fits.{partition_fits, object_fits}
use Rattle.live_history_laws.proofs.every_live_history_is_linearizable.Goals as goal

pub returns-clause-partition : goal.returns-clause-partition
returns-clause-partition c plan history some once = partition_fits plan history some once

pub returns-clause-object : goal.returns-clause-object
returns-clause-object c plan history name some once = object_fits plan history some once name
