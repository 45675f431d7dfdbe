-- What holds of every run of a script's lines, whatever its near clients do.
use Rattle.std.specs.Prelude.{◌≡◌, ℕ, ◌≤◌, false, List, [], ◌∷◌}
use Rattle.grid_base.specs.declared.names.CallId.{CallId}
use Rattle.call_engine.specs.Calls.{Settings}
use Rattle.call_engine.specs.Objects.{partition_object}
use Rattle.script_lang.specs.declared.line.Line.{Line}
use Rattle.masters_run.specs.AfterLines as ruled
use Rattle.replay_run.specs.Linearizability.{IsLinearizable}
use Rattle.replay_run.specs.SkippedCalls.{TellsOfSkips, TellsOfNoSkip}
use Rattle.replay_run.specs.Counts.{CountsOnce}
use Rattle.script_run.specs.Runs.{ScriptRun, begun, ruled_of, grid_line}
use Rattle.script_run.specs.AfterLines.{after_line, after_lines}

-- the run of these lines after the first, where these calls found no memory
abbrev pub run_with : Settings → ℕ → ℕ → List CallId → List Line → ScriptRun
run_with settings members backups skips lines = after_lines settings skips (begun members backups) lines

-- what the grid runs at these lines
abbrev pub grid_lines : Settings → List CallId → ScriptRun → List Line → List Line
grid_lines settings skips s [] = []
grid_lines settings skips s (line ∷ lines) = grid_line (partition_object settings) s line ∷ grid_lines settings skips (after_line settings skips s line) lines

-- To the grid, near clients are clients whose bytes arrive.
abbrev pub EveryRunIsTheGrids : Type 0
EveryRunIsTheGrids = (settings : Settings) (skips : List CallId) (s : ScriptRun) (lines : List Line)
    → ruled_of (after_lines settings skips s lines) ≡ ruled.after_lines (partition_object settings) skips (ruled_of s) (grid_lines settings skips s lines)

-- whatever the processors, the queues' capacity, the lines after the first, and the calls that find no memory

abbrev pub EveryRunIsLinearizable : Type 0
EveryRunIsLinearizable = (settings : Settings) (members backups : ℕ) (skips : List CallId) (lines : List Line) → 1 ≤ members
    → IsLinearizable settings (run_with settings members backups skips lines).run

abbrev pub EverySkippedCallIsTold : Type 0
EverySkippedCallIsTold = (settings : Settings) (members backups : ℕ) (skips : List CallId) (lines : List Line)
    → let s = run_with settings members backups skips lines in s.run.full ≡ false → TellsOfSkips skips s.run

abbrev pub EveryRunThatTellsOfNoSkipHasNone : Type 0
EveryRunThatTellsOfNoSkipHasNone = (settings : Settings) (members backups : ℕ) (skips : List CallId) (lines : List Line)
    → let s = run_with settings members backups skips lines in TellsOfNoSkip s.run → s ≡ run_with settings members backups [] lines

abbrev pub EveryCallCountsOnce : Type 0
EveryCallCountsOnce = (settings : Settings) (members backups : ℕ) (skips : List CallId) (lines : List Line) → 1 ≤ members
    → CountsOnce settings (run_with settings members backups skips lines).run
