-- What holds of the masters of a replayed script, where its second line has the table service run on the members.
use Rattle.std.specs.Prelude.{ℕ, ◌≤◌, List, Option}
use Rattle.grid_base.specs.declared.names.CallId.{CallId}
use Rattle.grid_edge.specs.Given.{Given}
use Rattle.entry_processors.specs.Processors.{ProcessorForm}
use Rattle.script_run.specs.Masters.{AreRuled, AllAreServed, AllGoOn}
use Rattle.grid_cli.specs.Commands.{run_of_script, settings_in}
use Rattle.grid_cli.specs.ReadScripts.{Prints}
use Rattle.grid_cli.specs.Statuses.{HasReplayed}
use Rattle.grid_cli.specs.declared.status.Status.{Status}

-- With this status this was read of the script and this text written, where these calls found no memory.
pub record TellsDecisions (forms : List ProcessorForm) (status : Status) (skips : List CallId) (script read text : List ℕ) : Type 0 where
  pub replayed : HasReplayed forms status skips script read text
  -- After whichever line, each partition with its masters is as lines of their machine make it.
  pub ruled : (lines : ℕ) → AreRuled (settings_in forms script) (run_of_script forms skips script lines)
  -- After whichever line, in each partition: what its table service did is what its masters published, in order, each decision right as it was
  -- taken, and that alone gives the partition's row, move and detected members; and no two live members are its master.
  pub served : (lines : ℕ) → AllAreServed (settings_in forms script) (run_of_script forms skips script lines)
  -- From whichever line to whichever later one: what was published stays, and no version of a row is made twice.
  pub goes_on : (lines later : ℕ) → lines ≤ later → AllGoOn (settings_in forms script) (run_of_script forms skips script lines) (run_of_script forms skips script later)

-- What was written tells decisions of the script that was read, for some calls that found no memory.
abbrev pub PrintsDecisions : List ProcessorForm → Status → (first now : Given) → (before after : List ℕ) → Type 0
PrintsDecisions forms status = Prints (TellsDecisions forms status)
