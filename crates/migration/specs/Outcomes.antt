-- What the steps of a move lead to.
use Rattle.std.specs.Prelude.{Bool, true, false, Result, Ok, Err}
use Rattle.migration.specs.Steps.{Replacement, Step, joining_step, joined_step, ended_step}
use Rattle.migration.specs.declared.ongoing.Ongoing.{Ongoing}
use Rattle.migration.specs.declared.ongoing.Ongoing.TheVariants as ongoing
use Rattle.migration.specs.declared.ongoing.Arrived.{Arrived}
use Rattle.migration.specs.declared.ongoing.Arrived.TheVariants as arrived
use Rattle.migration.specs.declared.joined.JoinedRefused.{JoinedRefused}
use Rattle.migration.specs.declared.joined.JoinedRefused.TheVariants.{IsPrimary, Memory}
use Rattle.migration.specs.declared.drained.DrainedRefused.{DrainedRefused}
use Rattle.migration.specs.declared.drained.DrainedRefused.TheVariants as drained

-- a move that goes on in a new row, or is done in it
abbrev pub ongoing_step : Ongoing → Step
ongoing_step (ongoing.Joining e) = joining_step e
ongoing_step (ongoing.Joined r) = joined_step r
ongoing_step (ongoing.Ended row) = ended_step row

-- a move whose target has the contents
abbrev pub arrived_step : Arrived → Step
arrived_step (arrived.Joined r) = joined_step r
arrived_step (arrived.Ended row) = ended_step row

-- the source wasn't dropped because it is primary
abbrev pub is_primary_refused : Result Replacement JoinedRefused → Bool
is_primary_refused (Err (IsPrimary r)) = true
is_primary_refused (Err (Memory r)) = false
is_primary_refused (Ok r) = false

-- what a refusal hands back

abbrev pub joined_back : JoinedRefused → Replacement
joined_back (IsPrimary r) = r
joined_back (Memory r) = r

abbrev pub drained_back : DrainedRefused → Replacement
drained_back (drained.Memory r) = r
