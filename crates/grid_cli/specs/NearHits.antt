-- What a value is worth that a near client of a script hits.
use Rattle.std.specs.Prelude.{ℕ, List, Option}
use Rattle.grid_base.specs.declared.names.CallId.{CallId}
use Rattle.grid_edge.specs.Given.{Given}
use Rattle.entry_processors.specs.Processors.{ProcessorForm}
use Rattle.near_script_laws.specs.HitsStand.{HitsStand}
use Rattle.grid_cli.specs.Commands.{run_of_script, settings_in}
use Rattle.grid_cli.specs.ReadScripts.{Prints}
use Rattle.grid_cli.specs.Statuses.{HasReplayed}
use Rattle.grid_cli.specs.declared.status.Status.{Status}

-- With this status this was read of the script and this text written, where these calls found no memory. After whichever line it is that
-- looks a key up, what its near client keeps stands.
pub record TellsHits (forms : List ProcessorForm) (status : Status) (skips : List CallId) (script read text : List ℕ) : Type 0 where
  pub replayed : HasReplayed forms status skips script read text
  pub hits : (lines : ℕ) → HitsStand (settings_in forms script) (run_of_script forms skips script lines)

-- What was written tells hits of the script that was read, for some calls that found no memory.
abbrev pub PrintsHits : List ProcessorForm → Status → (first now : Given) → (before after : List ℕ) → Type 0
PrintsHits forms status = Prints (TellsHits forms status)
