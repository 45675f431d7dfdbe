-- What holds of the calls that wait in a replayed script.
use Rattle.std.specs.Prelude.{◌≡◌, ℕ, ◌<◌, ◌≤◌, false, List, Option, Contains}
use Rattle.grid_base.specs.declared.names.CallId.{CallId}
use Rattle.grid_edge.specs.Given.{Given}
use Rattle.entry_processors.specs.Processors.{ProcessorForm}
use Rattle.call_engine.specs.Calls.{Settings}
use Rattle.call_engine.specs.Objects.{partition_object}
use Rattle.partition_protocol.specs.Sequences.{IsFrontOf}
use Rattle.replay_run.specs.Runs.{Run, Waiter, partitions, as_machine}
use Rattle.replay_run.specs.Staying.{HasNoTurn}
use Rattle.masters_run.specs.ByMachine.{GoesByItsMachine}
use Rattle.masters_run.specs.Silent.{ChangesNothing}
use Rattle.grid_cli.specs.Commands.{run_of_script, settings_in}
use Rattle.grid_cli.specs.ReadScripts.{Prints}
use Rattle.grid_cli.specs.Statuses.{HasReplayed}
use Rattle.grid_cli.specs.declared.status.Status.{Status}

-- At one moment, where these calls found no memory.
pub record WaitByTheRule (settings : Settings) (skips : List CallId) (r : Run) : Type 0 where
  -- Each partition goes by lines of the machine of calls that wait: these bring the run's waiting calls there, each once, and no other.
  pub by_the_machine : (p : ℕ) → p < partitions → GoesByItsMachine (partition_object settings) skips r p
  -- Nothing is to be done with whoever waits: its member lives and serves, its plain call wouldn't be answered as it wishes, and its deadline hasn't come.
  pub stays : (w : Waiter) → Contains r.waiters w → HasNoTurn (partition_object settings) r w
  -- It has changed nothing: without its arrival all the rest would be the same.
  pub silent : (w : Waiter) → Contains r.waiters w → (goes : GoesByItsMachine (partition_object settings) skips r w.request.partition)
      → ChangesNothing (partition_object settings) skips r w.request.partition goes.by.lines (as_machine w)

-- From one moment to a later one: by whichever lines a partition has gone, it goes on by more of them.
abbrev pub GoOnByTheRule : Settings → List CallId → Run → Run → Type 0
GoOnByTheRule settings skips first later = (p : ℕ) → p < partitions → (goes : GoesByItsMachine (partition_object settings) skips first p)
    → (on : GoesByItsMachine (partition_object settings) skips later p) × IsFrontOf goes.by.lines on.by.lines

-- With this status this was read of the script and this text written, where these calls found no memory. After whichever line, and from it to whichever later one, calls wait by the rule, unless the run was given up.
pub record TellsWaits (forms : List ProcessorForm) (status : Status) (skips : List CallId) (script read text : List ℕ) : Type 0 where
  pub replayed : HasReplayed forms status skips script read text
  pub waits : (lines : ℕ) → let s = run_of_script forms skips script lines in s.run.full ≡ false → WaitByTheRule (settings_in forms script) skips s.run
  pub goes_on : (lines later : ℕ) → 1 ≤ lines → lines ≤ later → let first = run_of_script forms skips script lines in let last = run_of_script forms skips script later in
      last.run.full ≡ false → GoOnByTheRule (settings_in forms script) skips first.run last.run

-- What was written is of the script that was read, whose calls wait by the rule, for some calls that found no memory.
abbrev pub PrintsWaits : List ProcessorForm → Status → (first now : Given) → (before after : List ℕ) → Type 0
PrintsWaits forms status = Prints (TellsWaits forms status)
