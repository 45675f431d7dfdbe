-- The run of a script that is made from a number.
use Rattle.std.specs.Prelude.{◌≡◌, ℕ, ◌+◌, ◌≤◌, false, List, [], ◌∷◌, ◌++◌, length, map, drop, Option, Some, None, Ok, All, Contains}
use Rattle.grid_base.specs.declared.names.CallId.{CallId}
use Rattle.call_engine.specs.Calls.{Settings}
use Rattle.script_lang.specs.Limits.{most_lines, most_line_bytes}
use Rattle.script_lang.specs.Lines.{line_of}
use Rattle.script_lang.specs.Spelling.{spelled}
use Rattle.script_lang.specs.Words.{whole_lines}
use Rattle.script_lang.specs.declared.line.Line.{Line}
use Rattle.replay_run.specs.declared.grid.Grid.{Grid}
use Rattle.replay_run.specs.Runs.{Run, Arrival}
use Rattle.replay_run.specs.SkippedCalls.{run_with}
use Rattle.replay_run.specs.Grids.{FormOf, Stands, IsGivenUp}
use Rattle.workload_gen.specs.Script.{sample_lines}

-- The first line gives the grid's queues their capacity. The grid has no processors.
abbrev pub sample_settings : Settings
sample_settings = record { forms = []; capacity = 100 }

-- the run of these lines behind the first, where these calls found no memory
abbrev pub run_of : List CallId → List Line → Run
run_of skips lines = run_with sample_settings 4 1 skips lines

-- the lines of a number's script behind the first
abbrev pub later_lines : ℕ → List Line
later_lines number = drop 1 (sample_lines number)

-- The skips are calls that arrived.
abbrev pub HaveArrived : List CallId → Run → Type 0
HaveArrived skips r = (id : CallId) → Contains skips id → (a : Arrival) × Contains r.arrivals a × (a.request.id ≡ id)

-- The run of the lines before this one was given up at it: an event of it met a full partition. The number is the line's in its script.
pub record StopsAt (lines : List Line) (number : ℕ) : Type 0 where
  pub before : List Line
  pub line : Line
  pub behind : List Line
  pub cut : lines ≡ before ++ line ∷ behind
  pub counted : number ≡ length before + 2
  pub skips : List CallId
  pub arrived : HaveArrived skips (run_of skips before)
  pub given_up : IsGivenUp sample_settings (run_of skips before) line

-- whichever lines are left behind that one
abbrev pub StopsBehind : List Line → Line → ℕ → Type 0
StopsBehind before line number = (behind : List Line) → StopsAt (before ++ line ∷ behind) number

-- what the code reads

-- A line behind the first is read as itself, and within the limit of a line.
pub record IsLater (line : Line) : Type 0 where
  pub read : line_of false 4 (spelled line) ≡ Ok line
  pub short : length (spelled line) ≤ most_line_bytes

-- The text has exactly these lines.
pub record IsTextOf (text : List ℕ) (lines : List Line) : Type 0 where
  pub cut : whole_lines text ≡ map spelled lines
  pub later : All IsLater lines

-- where the code is

-- The grid stands for the run of these lines.
pub record StandsAfter {V : Type 0} {T : V → Type 0} (form : FormOf V T) (grid : Grid V T) (done : List Line) : Type 0 where
  pub skips : List CallId
  pub arrived : HaveArrived skips (run_of skips done)
  pub stands : Stands form sample_settings grid (run_of skips done)

-- The text is the line behind these, with this number.
pub record IsNext {V : Type 0} {T : V → Type 0} (form : FormOf V T) (grid : Grid V T) (number : ℕ) (text : List ℕ) : Type 0 where
  pub done : List Line
  pub line : Line
  pub stands : StandsAfter form grid done
  pub spells : text ≡ spelled line
  pub later : IsLater line
  pub counted : number ≡ length done + 2
  pub within : number ≤ most_lines

-- The run of the text's lines was given up at the line of that number, or else none is left.
abbrev pub EndsAs : {V : Type 0} {T : V → Type 0} → FormOf V T → Grid V T → List Line → Option ℕ → Type 0
EndsAs form grid lines None = StandsAfter form grid lines
EndsAs form grid lines (Some number) = StopsAt lines number
