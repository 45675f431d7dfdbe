-- The run after a line, and after several.
use Rattle.std.specs.Prelude.{ℕ, ◌==◌, if◌then◌else◌, List, [], ◌∷◌, Option, Some, None, option_map}
use Rattle.grid_base.specs.Objects.{Object}
use Rattle.grid_base.specs.declared.names.CallId.{CallId}
use Rattle.grid_base.specs.declared.calls.Request.{Request}
use Rattle.object_store.specs.Partitions.{Partition}
use Rattle.partition_protocol.specs.Events as event
use Rattle.partition_protocol.specs.Service.{numbers_below}
use Rattle.masters_world.specs.Machine.{Line, Asks}
use Rattle.masters_world.specs.Machine as ruled
use Rattle.script_lang.specs.declared.line.Line.{Line as ScriptLine}
use Rattle.script_lang.specs.declared.line.Line.TheVariants.{Flow, FlowAll, Crash, Detect, Rebalance, Masters, Told, MasterDeliver, MasterLose, MasterResend, MasterFlow}
use Rattle.replay_run.specs.Runs.{At, partitions, event_by}
use Rattle.replay_run.specs.AfterLines as grid
use Rattle.masters_run.specs.Runs.{RuledRun, has_masters, opening_masters, begun, goes, goes_in, flowed, flowed_in, flowed_between, counted}

-- a line that is the grid's own
abbrev pub by_grid : Object Request Partition → List CallId → RuledRun → ScriptLine → RuledRun
by_grid o skips s line = record s { run = grid.after_line o skips s.run line }

-- without masters: the second line may bring them, and each other line is the grid's
abbrev pub unruled : Object Request Partition → List CallId → RuledRun → ScriptLine → RuledRun
unruled o skips s Masters = if s.run.lines == 1 then record (counted s) { masters = opening_masters s.run.members } else by_grid o skips s Masters
unruled o skips s line = by_grid o skips s line

-- what a line asks for in one partition, and what it asks for in each

pub record Asked : Type 0 where
  pub partition : ℕ
  pub line : Line Request

abbrev pub as_asked : At → Asked
as_asked e = record { partition = e.partition; line = Asks e.event }

abbrev pub asked_in : ℕ → Line Request → Option Asked
asked_in p l = Some (record { partition = p; line = l })

abbrev pub asked_at : ScriptLine → Option Asked
asked_at (MasterDeliver p from to place) = asked_in p (ruled.MasterDeliver from to place)
asked_at (MasterLose p from to place) = asked_in p (ruled.MasterLose from to place)
asked_at (MasterResend p member) = asked_in p (ruled.MasterResend member)
asked_at line = option_map as_asked (event_by line)

abbrev pub asked_in_all : ScriptLine → Option (Line Request)
asked_in_all (Told member crashed) = Some (ruled.Told member crashed)
asked_in_all (Crash member) = Some (Asks (event.Crash member))
asked_in_all (Detect member) = Some (Asks (event.Detect member))
asked_in_all line = None

abbrev pub by_partition : Object Request Partition → List CallId → RuledRun → ScriptLine → Option Asked → RuledRun
by_partition o skips s line None = by_grid o skips s line
by_partition o skips s line (Some a) = goes o skips (counted s) a.partition a.line

abbrev pub by_all : Object Request Partition → List CallId → RuledRun → ScriptLine → Option (Line Request) → RuledRun
by_all o skips s line None = by_partition o skips s line (asked_at line)
by_all o skips s line (Some l) = goes_in o skips (counted s) l (numbers_below partitions)

-- with masters: messages flow to members, and between masters; nothing is rebalanced; what asks for something in a partition goes by its masters. Each other line is the grid's.
abbrev pub ruled_line : Object Request Partition → List CallId → RuledRun → ScriptLine → RuledRun
ruled_line o skips s Masters = counted s
ruled_line o skips s (Rebalance most) = counted s
ruled_line o skips s (Flow p most) = flowed o skips (counted s) p most
ruled_line o skips s (FlowAll most) = flowed_in o skips (counted s) most (numbers_below partitions)
ruled_line o skips s (MasterFlow p most) = flowed_between o skips (counted s) p most
ruled_line o skips s line = by_all o skips s line (asked_in_all line)

abbrev pub after_line : Object Request Partition → List CallId → RuledRun → ScriptLine → RuledRun
after_line o skips s line = if has_masters s then ruled_line o skips s line else unruled o skips s line

abbrev pub after_lines : Object Request Partition → List CallId → RuledRun → List ScriptLine → RuledRun
after_lines o skips s [] = s
after_lines o skips s (line ∷ lines) = after_lines o skips (after_line o skips s line) lines

-- after a script's first line and these
abbrev pub run_with : Object Request Partition → ℕ → ℕ → List CallId → List ScriptLine → RuledRun
run_with o members backups skips lines = after_lines o skips (begun members backups) lines
