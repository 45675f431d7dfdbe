-- What the grid of a script stands for.
use Rattle.std.specs.Prelude.{◌≡◌, ℕ, ◌≤◌, List, [], Option, Some, None}
use Rattle.call_engine.specs.Calls.{Settings}
use Rattle.script_lang.specs.declared.line.Line.{Line}
use Rattle.replay_run.specs.Grids.{FormOf}
use Rattle.script_run.specs.declared.grid.ScriptGrid.{ScriptGrid}
use Rattle.script_run.specs.Runs.{ScriptRun}
use Rattle.script_run.specs.Grids.{Stands, HasRun as HasRunLine}
use Rattle.running_grid.specs.declared.running.RunningGrid.{RunningGrid}

-- The grid stands for a run of so many members.
pub record HasRun {V : Type 0} {T : V → Type 0} (form : FormOf V T) (members : ℕ) (grid : ScriptGrid V T) : Type 0 where
  pub settings : Settings
  pub run : ScriptRun
  pub stands : Stands form settings grid run
  pub same : members ≡ run.run.members

-- A run that wasn't given up is one of a script.
abbrev pub RunsSo : {V : Type 0} {T : V → Type 0} → FormOf V T → ℕ → Option (ScriptGrid V T) → Type 0
RunsSo form members (Some grid) = HasRun form members grid
RunsSo form members None = Unit {0}

-- from a script's first line on
pub record IsRunning {V : Type 0} {T : V → Type 0} (form : FormOf V T) (running : RunningGrid V T) : Type 0 where
  pub some : 1 ≤ running.members
  pub most : running.members ≤ 8
  pub so : RunsSo form running.members running.grid

-- It wasn't given up, and stands for that run.
pub record StandsFor {V : Type 0} {T : V → Type 0} (form : FormOf V T) (settings : Settings) (running : RunningGrid V T) (s : ScriptRun) : Type 0 where
  pub grid : ScriptGrid V T
  pub there : running.grid ≡ Some grid
  pub stands : Stands form settings grid s

-- The line ran: the grid stands for the run behind it, and the text is the one that a transcript has for it.
pub record RanLine {V : Type 0} {T : V → Type 0} (form : FormOf V T) (settings : Settings) (new : RunningGrid V T) (s : ScriptRun) (line : Line) (text : List ℕ) : Type 0 where
  pub grid : ScriptGrid V T
  pub there : new.grid ≡ Some grid
  pub ran : HasRunLine form settings grid s line [] text
