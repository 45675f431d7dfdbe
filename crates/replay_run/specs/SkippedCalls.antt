-- How a run tells that a call found no memory: it refuses the call with error 10, at the line at which it was to be made.
use Rattle.std.specs.Prelude.{◌≡◌, ◌≢◌, ℕ, true, false, List, [], Some, Contains, pos}
use Rattle.fixed_fields.specs.Responses.{error_bytes}
use Rattle.grid_base.specs.Errors.{want_of_memory}
use Rattle.grid_base.specs.declared.names.CallId.{CallId}
use Rattle.call_engine.specs.Calls.{Settings}
use Rattle.call_engine.specs.Objects.{partition_object}
use Rattle.replay_run.specs.Runs.{Run, At, Arrival, Appended, begun, call_of, is_skipped}
use Rattle.replay_run.specs.AfterLines.{after_lines}
use Rattle.script_lang.specs.declared.line.Line.{Line}

-- The message refuses the call, with error 10.
pub record TellsOfSkip (a : Arrival) (m : Appended) : Type 0 where
  pub refuses : m.refuses ≡ Some a.request.id
  pub bytes : m.bytes ≡ error_bytes a.request.correlation (pos want_of_memory) (pos 0) (pos 0)
  pub conn : m.conn ≡ a.request.id.conn
  pub line : m.line ≡ a.made

-- one of a run's messages does
abbrev pub IsTold : Run → Arrival → Type 0
IsTold r a = (m : Appended) × Contains r.appended m × TellsOfSkip a m

-- A call that is among the skips makes no event, and is told of as it would have been made: at its arrival, if it doesn't wait.
pub record TellsOfSkips (skips : List CallId) (r : Run) : Type 0 where
  pub told : (a : Arrival) → Contains r.arrivals a → is_skipped skips a.request.id ≡ true → a.waits ≡ false → IsTold r a
  pub unmade : (a : Arrival) (e : At) → is_skipped skips a.request.id ≡ true → Contains r.events e → e.event ≢ call_of a

-- no message of a run is an error 10
abbrev pub TellsOfNoSkip : Run → Type 0
TellsOfNoSkip r = (a : Arrival) → Contains r.arrivals a → ¬ IsTold r a

-- the run of these lines after the first, where these calls found no memory
abbrev pub run_with : Settings → ℕ → ℕ → List CallId → List Line → Run
run_with settings members backups skips lines = after_lines (partition_object settings) skips (begun members backups) lines

-- Whatever the processors, the queues' capacity, the lines, and the calls that find no memory. Where a line gives the run up, the lines before it tell of their skips.
abbrev pub EverySkippedCallIsTold : Type 0
EverySkippedCallIsTold = (settings : Settings) (members backups : ℕ) (skips : List CallId) (lines : List Line)
    → let r = run_with settings members backups skips lines in r.full ≡ false → TellsOfSkips skips r

-- A run that tells of no skip is the one without skips, also where it was given up.
abbrev pub EveryRunThatTellsOfNoSkipHasNone : Type 0
EveryRunThatTellsOfNoSkipHasNone = (settings : Settings) (members backups : ℕ) (skips : List CallId) (lines : List Line)
    → let r = run_with settings members backups skips lines in TellsOfNoSkip r → r ≡ run_with settings members backups [] lines
