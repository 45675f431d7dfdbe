-- The run after a line, and after several.
use Rattle.std.specs.Prelude.{if◌then◌else◌, List, [], ◌∷◌, Option, Some, None}
use Rattle.grid_base.specs.Objects.{Object}
use Rattle.grid_base.specs.declared.names.CallId.{CallId}
use Rattle.grid_base.specs.declared.calls.Request.{Request}
use Rattle.object_store.specs.Partitions.{Partition}
use Rattle.partition_protocol.specs.Events as event
use Rattle.partition_protocol.specs.Service.{numbers_below}
use Rattle.script_lang.specs.declared.line.Line.{Line}
use Rattle.script_lang.specs.declared.line.Line.TheVariants.{OpenConn, Arrive, Clock, Flow, FlowAll, Crash, Detect, Rebalance}
use Rattle.replay_run.specs.Runs.{Run, At, partitions, connection_of, can_open, opened, next_line, bytes_arrived, clock_turned, takes, takes_in, flowed, flowed_in, event_by}
use Rattle.replay_run.specs.Rebalancing.{rebalanced}

abbrev pub after_event : Object Request Partition → List CallId → Run → Option At → Run
after_event o skips r None = r
after_event o skips r (Some e) = takes o skips r e.partition e.event

-- The run after a line. A connection is opened, or bytes arrive where one was. A clock is set, and calls that wait may have their turns. An event happens in a partition, or in each one, or the steps of a plan are run. The other lines change nothing.
abbrev pub after_line : Object Request Partition → List CallId → Run → Line → Run
after_line o skips r (OpenConn c member) = if can_open o r c member then opened r c member else next_line r
after_line o skips r (Arrive c bytes) = elim (connection_of r c) [ None ↦ next_line r | Some connection ↦ bytes_arrived o skips r connection bytes ]
after_line o skips r (Clock member moment) = clock_turned o skips r member moment
after_line o skips r (Flow partition most) = flowed o skips (next_line r) partition most
after_line o skips r (FlowAll most) = flowed_in o skips (next_line r) most (numbers_below partitions)
after_line o skips r (Crash member) = takes_in o skips (next_line r) (event.Crash member) (numbers_below partitions)
after_line o skips r (Detect member) = takes_in o skips (next_line r) (event.Detect member) (numbers_below partitions)
after_line o skips r (Rebalance most) = rebalanced o skips (next_line r) most
after_line o skips r line = after_event o skips (next_line r) (event_by line)

abbrev pub after_lines : Object Request Partition → List CallId → Run → List Line → Run
after_lines o skips r [] = r
after_lines o skips r (line ∷ lines) = after_lines o skips (after_line o skips r line) lines
