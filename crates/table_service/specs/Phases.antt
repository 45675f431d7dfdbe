-- The row of a partition and the move under way in it, in the protocol's words.
use Rattle.partition_protocol.specs.Service.{AdvanceStep, Nothing as NoStep, Freezes as FreezesSource, MakesRow as RowMade}
use Rattle.migration.specs.Steps.{Step, ended_step, joining_step, joined_step, freezing_step, drained_step}
use Rattle.table_service.specs.declared.phase.Phase.{Phase}
use Rattle.table_service.specs.declared.phase.Phase.TheVariants.{Idle, Joining, Joined, Freezing, Drained}
use Rattle.table_service.specs.declared.phase.NextStep.{NextStep}
use Rattle.table_service.specs.declared.phase.NextStep.TheVariants.{Nothing, Freezes, MakesRow}

-- each state is a move of the protocol, in its row
abbrev pub phase_step : Phase → Step
phase_step (Idle row) = ended_step row
phase_step (Joining e) = joining_step e
phase_step (Joined r) = joined_step r
phase_step (Freezing r) = freezing_step r
phase_step (Drained r) = drained_step r

-- what the next step of the move is to do
abbrev pub advance_step : NextStep → AdvanceStep
advance_step Nothing = NoStep
advance_step (Freezes source target) = FreezesSource source target
advance_step (MakesRow row) = RowMade row
