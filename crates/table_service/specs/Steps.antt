-- What the service's steps do and send, by cases on what is due.
use Rattle.std.specs.Prelude.{ℕ, List, [], ◌∷◌, Option, Some, None, if◌then◌else◌}
use Rattle.partition_table.specs.Rows.{is_in}
use Rattle.partition_protocol.specs.Messages.{Message, NewRow, Sync, Effect, Bridge, Ack, Joined, Freeze, Frozen, Sent}
use Rattle.partition_protocol.specs.Took.{Other}
use Rattle.partition_protocol.specs.Service.{Service, NoMove, Freezing, AdvanceStep, Nothing as NoStep, Freezes, MakesRow, ServiceStep, with_row, telling, detecting, on_joined, on_frozen}
use Rattle.table_service.specs.declared.moves.Advanced.{Advanced}
use Rattle.table_service.specs.declared.moves.Advanced.TheVariants as advanced

-- a member is told to have crashed

-- the version of the row that is made, where the member was in the row
abbrev pub version_on_loss : ℕ → Service → Option ℕ
version_on_loss m s = if is_in s.row m then Some (detecting m s).row.version else None

-- a row is told where one is made
abbrev pub told_on_loss : ℕ → ℕ → Service → List Sent
told_on_loss members m s = if is_in s.row m then telling members (detecting m s) else []

-- the next step of a move

abbrev pub advancing : AdvanceStep → Service → Service
advancing NoStep s = s
advancing (Freezes from to) s = with_row s s.row (Freezing from to)
advancing (MakesRow row) s = with_row s row NoMove

abbrev pub told_on_advance : ℕ → AdvanceStep → Service → List Sent
told_on_advance members NoStep s = []
told_on_advance members (Freezes from to) s = record { to = from; message = Freeze s.row.version } ∷ []
told_on_advance members (MakesRow row) s = telling members (advancing (MakesRow row) s)

abbrev pub advanced_by : AdvanceStep → Advanced
advanced_by NoStep = advanced.Nothing
advanced_by (Freezes from to) = advanced.Freezing
advanced_by (MakesRow row) = advanced.Row row.version

-- a message: what is said to a member isn't for the service

abbrev pub taking_at_service : Message → Service → ServiceStep
taking_at_service (Joined version member) s = on_joined version member s
taking_at_service (Frozen version) s = on_frozen version s
taking_at_service (NewRow row) s = record { service = s; took = Other }
taking_at_service (Sync row count) s = record { service = s; took = Other }
taking_at_service (Effect version number) s = record { service = s; took = Other }
taking_at_service (Bridge row base count) s = record { service = s; took = Other }
taking_at_service (Ack version count) s = record { service = s; took = Other }
taking_at_service (Freeze version) s = record { service = s; took = Other }
