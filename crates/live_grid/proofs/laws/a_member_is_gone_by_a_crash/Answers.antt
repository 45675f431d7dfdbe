use Rattle.std.proofs.Common.{map}
use Rattle.call_engine.specs.Objects.{partition_object}
use Rattle.partition_world.specs.Events.{event_of}
use Rattle.live_grid.specs.Plans.{settings_for}
use Rattle.live_grid.proofs.Crashed.{gone_by_crash}
use Rattle.live_grid.proofs.laws.a_member_is_gone_by_a_crash.Goals as goal

pub returns : goal.returns
returns c plan history member below dead = gone_by_crash (partition_object (settings_for plan)) member plan.partition plan.members plan.backups (map event_of history) below dead
