-- Who waits after a line: whoever has no turn then, unless the run is given up.
use Rattle.std.specs.Prelude.{◌≡◌, ℕ, ◌==◌, ◌≤◌, false, List, map, filter, Contains}
use Rattle.grid_base.specs.Objects.{Object}
use Rattle.grid_base.specs.declared.names.CallId.{CallId}
use Rattle.grid_base.specs.declared.calls.Request.{Request}
use Rattle.object_store.specs.Partitions.{Partition}
use Rattle.call_engine.specs.Calls.{Settings}
use Rattle.call_engine.specs.Objects.{partition_object}
use Rattle.script_lang.specs.declared.line.Line.{Line}
use Rattle.waiting_protocol.specs.Machine.{Waiting, Stays}
use Rattle.waiting_protocol.specs.Claims.{WaitsOn}
use Rattle.wait_sets.specs.Laws.{grid_terms}
use Rattle.replay_run.specs.Runs.{Run, Waiter, world_at, moment_of, as_machine, fate_now}
use Rattle.replay_run.specs.SkippedCalls.{run_with}

-- a partition as the machine of calls that wait has it
abbrev pub waiting_in : Object Request Partition → Run → ℕ → Waiting Request
waiting_in o r p = record {
  world = world_at o r p;
  clock = moment_of r;
  waiters = map as_machine (filter (λ (w : Waiter). w.request.partition == p) r.waiters);
}

-- Nothing is to be done with it: its member lives and serves, its plain call wouldn't be answered as it wishes, and its deadline, if it has one, hasn't come.
pub record HasNoTurn (o : Object Request Partition) (r : Run) (w : Waiter) : Type 0 where
  pub stays : fate_now o r w ≡ Stays
  pub waits : WaitsOn o (grid_terms (λ x. false)) (waiting_in o r w.request.partition) (as_machine w)

-- Whatever the processors, the queues' capacity, the lines, and the calls that find no memory: so it is with whoever waits after the lines, unless one of them gives the run up.
abbrev pub EveryWaiterStays : Type 0
EveryWaiterStays = (settings : Settings) (members backups : ℕ) (skips : List CallId) (lines : List Line) → 1 ≤ members
    → let r = run_with settings members backups skips lines in r.full ≡ false → (w : Waiter) → Contains r.waiters w → HasNoTurn (partition_object settings) r w
