-- What the program's commands are, and what a replay says of the histories that it prints.
use Rattle.std.specs.Prelude.{◌≡◌, ℕ, Bool, false, List, [], ◌∷◌, ◌++◌, take, Option, codes, String, string_bytes}
use Rattle.std.specs.List.{flat_map}
use Rattle.std.specs.declared.alloc.Global.{Global}
use Rattle.grid_base.specs.declared.names.CallId.{CallId}
use Rattle.grid_edge.specs.Given.{Given}
use Rattle.script_lang.specs.Words.{are_same}
use Rattle.entry_processors.specs.Processors.{ProcessorForm}
use Rattle.call_engine.specs.Calls.{Settings}
use Rattle.call_engine.specs.Objects.{partition_object}
use Rattle.replay_run.specs.Runs.{Run}
use Rattle.script_run.specs.Runs.{ScriptRun}
use Rattle.replay_run.specs.Printing.{ok_text, entry_text, all_entries}
use Rattle.replay_run.specs.Linearizability.{IsLinearizable}
use Rattle.grid_cli.specs.Scripts.{lines_of}
use Rattle.grid_cli.specs.Progress.{run_of, capacity_of}
use Rattle.grid_cli.specs.Transcripts.{settings}
use Rattle.grid_cli.specs.ReadScripts.{Prints}
use Rattle.grid_cli.specs.Statuses.{HasReplayed}
use Rattle.grid_cli.specs.declared.status.Status.{Status}
use Rattle.grid_cli.specs.declared.status.Status.TheVariants.{Done}

-- The words after the program's name are the one word `replay`.
abbrev pub is_replay : List (String Global) → Bool
is_replay [] = false
is_replay (word ∷ []) = are_same (string_bytes word) (codes "replay")
is_replay (word ∷ other ∷ words) = false

-- the run after the first lines of a script, that many or as many as run
abbrev pub run_of_script : List ProcessorForm → List CallId → List ℕ → ℕ → ScriptRun
run_of_script forms skips script lines = run_of forms skips (take lines (lines_of script))

-- what objects go by in a script's grid, whose entries are processed by these forms
abbrev pub settings_in : List ProcessorForm → List ℕ → Settings
settings_in forms script = settings forms (capacity_of (lines_of script))

-- the text closes with the histories of a run
abbrev pub ClosesWith : Settings → Run → List ℕ → Type 0
ClosesWith s r text = (front : List ℕ) × (text ≡ front ++ ok_text r.lines ++ flat_map (entry_text r.lines) (all_entries (partition_object s) r))

-- With this status this was read of the script and this text written, where these calls found no memory.
pub record TellsHistories (forms : List ProcessorForm) (status : Status) (skips : List CallId) (script read text : List ℕ) : Type 0 where
  pub replayed : HasReplayed forms status skips script read text
  -- Whichever line it is that prints histories, each is one that a single thread could have seen.
  pub linearizable : (lines : ℕ) → IsLinearizable (settings_in forms script) (run_of_script forms skips script lines).run
  -- and with the line `end` the text closes with all of them
  pub closes : status ≡ Done → (lines : ℕ) × ClosesWith (settings_in forms script) (run_of_script forms skips script lines).run text

-- What was written tells histories of the script that was read, for some calls that found no memory.
abbrev pub PrintsHistories : List ProcessorForm → Status → (first now : Given) → (before after : List ℕ) → Type 0
PrintsHistories forms status = Prints (TellsHistories forms status)
