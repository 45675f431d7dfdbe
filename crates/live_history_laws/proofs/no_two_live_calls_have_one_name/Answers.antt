use Rattle.std.proofs.Common.{◌≤◌, subst}
use Rattle.table_service.specs.Services.{Setup}
use Rattle.live_history_laws.proofs.NewNames.{named_once}
use Rattle.live_history_laws.proofs.no_two_live_calls_have_one_name.Goals as goal

pub returns-clause-stands : goal.returns-clause-stands
returns-clause-stands c live plan history is = (subst (λ (s : Setup). 1 ≤ s.members) is.world.setup is.world.stands.some, is.world.stands.once)

pub returns-clause-new : goal.returns-clause-new
returns-clause-new c history new = named_once history new
