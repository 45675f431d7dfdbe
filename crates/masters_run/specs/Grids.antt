-- The grid of the code, with its masters, stands for the run of a script's grid.
use Rattle.std.specs.Prelude.{◌≡◌, ℕ, ◌+◌, ◌<◌, ◌≤◌, true, List, [], ◌++◌, length, Some, slice_get, Result, OnOk, IsErrOf}
use Rattle.grid_base.specs.declared.names.CallId.{CallId}
use Rattle.grid_base.specs.declared.calls.Request.{Request}
use Rattle.call_engine.specs.Calls.{Settings}
use Rattle.call_engine.specs.Objects.{partition_object}
use Rattle.master_log.specs.declared.masters.Masters.{Masters}
use Rattle.master_log.specs.Standing.{StandsFor, size_of}
use Rattle.masters_world.specs.Machine.{Line, start, asked}
use Rattle.script_lang.specs.Limits.{most_lines}
use Rattle.script_lang.specs.Lines.{IsWithin}
use Rattle.script_lang.specs.declared.line.Line.{Line as ScriptLine}
use Rattle.line_told.specs.declared.told.Ready.{Ready}
use Rattle.line_told.specs.declared.told.Told.{Told}
use Rattle.replay_run.specs.Runs.{partitions}
use Rattle.replay_run.specs.Endings.{AreAmong, new_arrivals}
use Rattle.replay_run.specs.Grids.{FormOf, most_arriving}
use Rattle.replay_run.specs.Grids as grid
use Rattle.replay_run.specs.declared.run_end.RunEnd.{RunEnd}
use Rattle.replay_run.specs.declared.run_end.RunEnd.TheVariants.{InFlight}
use Rattle.masters_run.specs.declared.grid.RuledGrid.{RuledGrid}
use Rattle.masters_run.specs.Runs.{RuledRun, has_masters}
use Rattle.masters_run.specs.AfterLines.{after_line}
use Rattle.masters_run.specs.LineTold.{line_told, line_printed}
use Rattle.masters_run.specs.Standing.{IsOfLines}
use Rattle.masters_run.specs.Written.{written_events}

-- The masters of the code stand for what the lines of their partition asked them, and the partition for what these made happen.
pub record AreMasters (settings : Settings) (kept : Masters) (s : RuledRun) (p : ℕ) : Type 0 where
  pub lines : List (Line Request)
  pub of_lines : IsOfLines (partition_object settings) s p lines
  pub size : size_of kept ≡ s.run.members
  pub stands : StandsFor kept (written_events (asked (partition_object settings) (start p s.run.members s.run.backups) lines))

pub record HasMastersAt (settings : Settings) (all : List Masters) (s : RuledRun) (p : ℕ) : Type 0 where
  pub masters : Masters
  pub there : slice_get all p ≡ Some masters
  pub are : AreMasters settings masters s p

-- The masters of the code are there where the run's are: those of each partition.
pub record Rules (settings : Settings) (all : List Masters) (s : RuledRun) : Type 0 where
  pub count : length all ≡ length s.masters
  pub ruled : has_masters s ≡ true → length s.masters ≡ partitions
  pub each : has_masters s ≡ true → (p : ℕ) → p < partitions → HasMastersAt settings all s p
  pub most : s.run.members ≤ 8

-- between two lines
pub record Stands {V : Type 0} {T : V → Type 0} (form : FormOf V T) (settings : Settings) (all : RuledGrid V T) (s : RuledRun) : Type 0 where
  pub grid : grid.Stands form settings all.grid s.run
  pub masters : Rules settings all.masters.items s
  -- the first line has made nothing happen
  pub some : 1 ≤ s.run.lines
  pub begun : s.run.lines ≡ 1 → s.run.events ≡ []

-- The line is one that the script can have next.
pub record MayRun {V : Type 0} {T : V → Type 0} (form : FormOf V T) (all : RuledGrid V T) (number : ℕ) (line : ScriptLine) : Type 0 where
  pub settings : Settings
  pub run : RuledRun
  pub stands : Stands form settings all run
  pub read : IsWithin run.run.members most_arriving line
  pub next : number ≡ run.run.lines + 1
  pub within : number ≤ most_lines

-- The run of the grid has masters.
abbrev pub HasMasters : {V : Type 0} {T : V → Type 0} → FormOf V T → RuledGrid V T → Type 0
HasMasters form all = (settings : Settings) (s : RuledRun) → Stands form settings all s → has_masters s ≡ true

-- The skips of a line are among the calls that came to their end at it.
abbrev pub AreOfLine : Settings → RuledRun → ScriptLine → List CallId → Type 0
AreOfLine settings s line skips = AreAmong (new_arrivals s.run (after_line (partition_object settings) skips s line).run) skips

-- The line ran: the grid stands for the run after it, and what it told was added.
pub record HasRun {V : Type 0} {T : V → Type 0} (form : FormOf V T) (settings : Settings) (new : RuledGrid V T) (s : RuledRun) (line : ScriptLine) (earlier later : List Told) : Type 0 where
  pub skips : List CallId
  pub of_line : AreOfLine settings s line skips
  pub stands : Stands form settings new (after_line (partition_object settings) skips s line)
  pub added : later ≡ earlier ++ line_told settings skips s line (after_line (partition_object settings) skips s line)

-- It ran, and what it wrote as it went was added too.
pub record HasGiven {V : Type 0} {T : V → Type 0} (form : FormOf V T) (settings : Settings) (new : RuledGrid V T) (s : RuledRun) (line : ScriptLine) (earlier later : Ready) : Type 0 where
  pub told : HasRun form settings new s line earlier.told.items later.told.items
  pub printed : later.printed.items ≡ earlier.printed.items ++ line_printed settings s line

-- The run is given up at the line: an event met a full partition, or masters a full link.
pub record IsGivenUp (settings : Settings) (s : RuledRun) (line : ScriptLine) : Type 0 where
  pub skips : List CallId
  pub of_line : AreOfLine settings s line skips
  pub full : (after_line (partition_object settings) skips s line).run.full ≡ true

-- what comes of running a line, whatever run the grid stood for

-- The line ran, if there was no error.
abbrev pub Runs : {V : Type 0} {T : V → Type 0} {X : Type 0} → FormOf V T → RuledGrid V T → RuledGrid V T → ScriptLine → Result X RunEnd → List Told → List Told → Type 0
Runs form old new line result earlier later = (settings : Settings) (s : RuledRun) → Stands form settings old s → OnOk result (HasRun form settings new s line earlier later)

abbrev pub Gives : {V : Type 0} {T : V → Type 0} {X : Type 0} → FormOf V T → RuledGrid V T → RuledGrid V T → ScriptLine → Result X RunEnd → Ready → Ready → Type 0
Gives form old new line result earlier later = (settings : Settings) (s : RuledRun) → Stands form settings old s → OnOk result (HasGiven form settings new s line earlier later)

-- It is given up, where that is the error.
abbrev pub GivesUpIfFull : {V : Type 0} {T : V → Type 0} {X : Type 0} → FormOf V T → RuledGrid V T → ScriptLine → Result X RunEnd → Type 0
GivesUpIfFull form old line result = (settings : Settings) (s : RuledRun) → Stands form settings old s → IsErrOf result InFlight → IsGivenUp settings s line
