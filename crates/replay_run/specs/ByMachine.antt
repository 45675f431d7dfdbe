-- Each partition of a run, with those who wait there, beside the machine of calls that wait.
use Rattle.std.specs.Prelude.{◌≡◌, ℕ, ◌≤◌, ◌<◌, Bool, false, List}
use Rattle.grid_base.specs.Objects.{Object}
use Rattle.grid_base.specs.declared.names.CallId.{CallId}
use Rattle.grid_base.specs.declared.calls.Request.{Request}
use Rattle.object_store.specs.Partitions.{Partition}
use Rattle.call_engine.specs.Calls.{Settings}
use Rattle.call_engine.specs.Objects.{partition_object}
use Rattle.script_lang.specs.declared.line.Line as script
use Rattle.waiting_protocol.specs.Machine.{Line, Terms, start, after, events}
use Rattle.waiting_protocol.specs.Machine as machine
use Rattle.wait_sets.specs.Laws.{grid_terms}
use Rattle.replay_run.specs.Runs.{Run, partitions, events_at, is_skipped}
use Rattle.replay_run.specs.SkippedCalls.{run_with}
use Rattle.replay_run.specs.Staying.{waiting_in}

-- whoever of those who wait finds no memory
abbrev pub starves : List CallId → machine.Waiter Request → Bool
starves skips x = is_skipped skips (record { conn = x.conn; number = x.number })

abbrev pub terms_by : List CallId → Terms Request
terms_by skips = grid_terms (starves skips)

-- By these lines of its machine the partition has come to what the run has of it, and nothing else has happened to it.
pub record HasGoneBy (o : Object Request Partition) (skips : List CallId) (r : Run) (p : ℕ) : Type 0 where
  pub lines : List (Line Request)
  pub states : waiting_in o r p ≡ after o (terms_by skips) (start p r.members r.backups) lines
  pub happened : events_at p r.events ≡ events o (terms_by skips) (start p r.members r.backups) lines

-- Whatever the processors, the queues' capacity, the lines, and the calls that find no memory, unless a line gives the run up.
abbrev pub EveryPartitionGoesByItsMachine : Type 0
EveryPartitionGoesByItsMachine = (settings : Settings) (members backups : ℕ) (skips : List CallId) (lines : List script.Line) (p : ℕ) → 1 ≤ members → p < partitions
    → let r = run_with settings members backups skips lines in r.full ≡ false → HasGoneBy (partition_object settings) skips r p
