-- The transcript of a script: the text of its lines one after another, and how it ends.
use Rattle.std.specs.Prelude.{ℕ, ◌+◌, true, false, if◌then◌else◌, List, [], ◌∷◌, ◌++◌, Option, Some, None, Ok, Err, codes}
use Rattle.grid_base.specs.declared.names.CallId.{CallId}
use Rattle.entry_processors.specs.Processors.{ProcessorForm}
use Rattle.call_engine.specs.Calls.{Settings}
use Rattle.script_lang.specs.Lines.{line_of, is_end, why_text}
use Rattle.script_lang.specs.declared.line.Line.{Line}
use Rattle.script_lang.specs.declared.line.Line.TheVariants.{Grid}
use Rattle.script_lang.specs.declared.refusal.LineWhy.{LineWhy}
use Rattle.script_lang.specs.declared.refusal.LineWhy.TheVariants.{NoGrid, NoEnd}
use Rattle.script_run.specs.Runs.{ScriptRun, begun}
use Rattle.script_run.specs.AfterLines.{after_line}
use Rattle.script_run.specs.Printing.{line_text}
use Rattle.replay_run.specs.Dumps.{number, line_end}
use Rattle.replay_run.specs.Printing.{ok_text}
use Rattle.grid_cli.specs.Scripts.{lines_of, limit_of}
use Rattle.grid_cli.specs.declared.status.LimitWhat.{LimitWhat}
use Rattle.grid_cli.specs.declared.status.LimitWhat.TheVariants.{Bytes, Lines, Line as OneLine, InFlight}

-- how a transcript ends: at the line `end`, at a line that is refused, or at one that goes past a limit
pub data Ending : Type 0 where
  Ended : Ending
  Refused : (line : ℕ) (why : LineWhy) → Ending
  TooLong : (line : ℕ) (what : LimitWhat) → Ending

pub record Transcript : Type 0 where
  pub text : List ℕ
  pub ending : Ending

-- `refused I WHY`
abbrev pub refused_text : ℕ → LineWhy → List ℕ
refused_text line why = codes "refused " ++ number line ++ why_text why ++ line_end

abbrev pub limit_word : LimitWhat → List ℕ
limit_word Bytes = codes "bytes"
limit_word Lines = codes "lines"
limit_word OneLine = codes "line"
limit_word InFlight = codes "inflight"

-- `limit I WHAT`
abbrev pub limit_text : ℕ → LimitWhat → List ℕ
limit_text line what = codes "limit " ++ number line ++ limit_word what ++ line_end

abbrev pub refused : ℕ → LineWhy → Transcript
refused line why = record { text = refused_text line why; ending = Refused line why }

abbrev pub too_long : ℕ → LimitWhat → Transcript
too_long line what = record { text = limit_text line what; ending = TooLong line what }

-- after the last line, with the number of lines: the script went past a limit in the next one, or stopped without `end`
abbrev pub stopped : Option LimitWhat → ℕ → Transcript
stopped (Some what) lines = too_long (lines + 1) what
stopped None lines = refused lines NoEnd

abbrev pub following : List ℕ → Transcript → Transcript
following text rest = record { text = text ++ rest.text; ending = rest.ending }

-- The lines after the first. One that isn't in the grammar runs in no part. Of one at which the run is given up nothing is printed. Nothing after `end` is looked at.
abbrev pub later_lines : Settings → List CallId → Option LimitWhat → ScriptRun → List (List ℕ) → Transcript
later_lines s skips limit r [] = stopped limit r.run.lines
later_lines s skips limit r (text ∷ texts) =
    elim (line_of false r.run.members text) [
      | Err why ↦ refused (r.run.lines + 1) why
      | Ok line ↦
          let next = after_line s skips r line in
          if next.run.full then too_long (r.run.lines + 1) InFlight
          else if is_end line then (record { text = line_text s skips r line next; ending = Ended })
          else following (line_text s skips r line next) (later_lines s skips limit next texts)
    ]

-- what objects go by in a grid of these processors, whose first line gave its queues this capacity
abbrev pub settings : List ProcessorForm → ℕ → Settings
settings forms capacity = record { forms = forms; capacity = capacity }

-- The first line makes the grid.
abbrev pub after_first : List ProcessorForm → List CallId → Option LimitWhat → List (List ℕ) → Line → Transcript
after_first forms skips limit texts (Grid members backups capacity) =
    following (ok_text 1) (later_lines (settings forms capacity) skips limit (begun members backups) texts)
after_first forms skips limit texts line = refused 1 NoGrid

abbrev pub first_line : List ProcessorForm → List CallId → Option LimitWhat → List (List ℕ) → Transcript
first_line forms skips limit [] = stopped limit 0
first_line forms skips limit (text ∷ texts) = elim (line_of true 0 text) [ Err why ↦ refused 1 why | Ok line ↦ after_first forms skips limit texts line ]

-- the transcript of a script, where entries are processed by these forms and the calls of skips found no memory
abbrev pub transcript : List ProcessorForm → List CallId → List ℕ → Transcript
transcript forms skips script = first_line forms skips (limit_of script) (lines_of script)
