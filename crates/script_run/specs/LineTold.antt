-- What a line of a script tells, as data.
use Rattle.std.specs.Prelude.{ℕ, List, [], ◌++◌, length, if◌then◌else◌, Option, Some, None}
use Rattle.grid_base.specs.declared.names.CallId.{CallId}
use Rattle.call_engine.specs.Calls.{Settings}
use Rattle.call_engine.specs.Objects.{partition_object}
use Rattle.grid_client.specs.declared.heard.Heard.{Heard}
use Rattle.script_lang.specs.declared.line.Line.{Line}
use Rattle.script_lang.specs.declared.line.Line.TheVariants.{Arrive, Near, NearGet, NearFeed}
use Rattle.line_told.specs.declared.told.LineOutcome.TheVariants as outcome
use Rattle.line_told.specs.declared.told.Ready.{Ready}
use Rattle.line_told.specs.declared.told.Told.{Told}
use Rattle.replay_run.specs.LineTold.{came_to, messages_told, line_closing}
use Rattle.replay_run.specs.Printing.{does_nothing}
use Rattle.replay_run.specs.Runs.{Run}
use Rattle.masters_run.specs.LineTold as ruled
use Rattle.script_run.specs.declared.told.NearOutcome.{NearOutcome}
use Rattle.script_run.specs.declared.told.NearOutcome.TheVariants as near
use Rattle.script_run.specs.declared.told.ScriptTold.{ScriptTold}
use Rattle.script_run.specs.NearClients.{NearClient, opening_of, get_sent, piece, told}
use Rattle.script_run.specs.Runs.{ScriptRun, ruled_of, Look, Unmade, Hit, Miss, near_of, is_near_connection, can_begin, look}

-- What a near client did, if the line is of one that did something, and what it made of messages; behind that what the grid told, and what it wrote as it went.
pub record LineTold : Type 0 where
  pub near : Option NearOutcome
  pub heard : List Heard
  pub grid : List Told
  pub printed : List ℕ

-- as the code has it
abbrev pub told_of : ScriptTold → LineTold
told_of t = record { near = t.near; heard = t.heard.items; grid = t.grid.told.items; printed = t.grid.printed.items }

-- of a line at which no near client did anything
abbrev pub by_grid : List Told → List ℕ → LineTold
by_grid told printed = record { near = None; heard = []; grid = told; printed = printed }

-- of one at which a near client did this
abbrev pub by_near : NearOutcome → List Heard → List Told → LineTold
by_near did heard told = record { near = Some did; heard = heard; grid = told; printed = [] }

-- of one whose condition is false
abbrev pub idle : LineTold
idle = by_grid (came_to outcome.Idle) []

-- what bytes bring that a near client sends: the messages that they append, and their connection's close, if they showed a fault; nothing, where they can't arrive
abbrev pub brought : Settings → List CallId → Run → ℕ → List ℕ → Run → List Told
brought settings skips before c bytes after =
    let line = Arrive c bytes in
    if does_nothing (partition_object settings) before line then []
    else messages_told settings skips before line after ++ line_closing after line

-- A near client begins, be it that its opening can't arrive.
abbrev pub begun_told : Settings → List CallId → Run → ℕ → List ℕ → Run → LineTold
begun_told settings skips before c name after = by_grid (came_to outcome.Ran ++ brought settings skips before c (opening_of c name) after) []

-- A miss tells what its get brings.
abbrev pub look_told : Settings → List CallId → Run → ℕ → List ℕ → Run → Look → LineTold
look_told settings skips before c key after Unmade = idle
look_told settings skips before c key after (Hit n value) = by_near (near.Hit value) [] []
look_told settings skips before c key after (Miss n) = by_near near.Miss [] (brought settings skips before c (get_sent n key).request after)

-- how many bytes the client was handed, and what it makes of the messages that these complete
abbrev pub fed_told : ℕ → Option NearClient → LineTold
fed_told most None = idle
fed_told most (Some n) = by_near (near.Fed (length (piece most n))) (told most n).heard []

-- a line that is the grid's own
abbrev pub grid_told : Settings → List CallId → ScriptRun → Line → ScriptRun → LineTold
grid_told settings skips s line next = by_grid (ruled.line_told settings skips (ruled_of s) line (ruled_of next)) (ruled.line_printed settings (ruled_of s) line)

-- What a line tells at which these calls found no memory.
abbrev pub line_told : Settings → List CallId → ScriptRun → Line → ScriptRun → LineTold
line_told settings skips s (Near c name capacity) next = if can_begin s c name then begun_told settings skips s.run c name next.run else idle
line_told settings skips s (NearGet c key) next = look_told settings skips s.run c key next.run (look (partition_object settings) s c key)
line_told settings skips s (NearFeed c most) next = fed_told most (near_of s c)
line_told settings skips s (Arrive c bytes) next = if is_near_connection s c then idle else grid_told settings skips s (Arrive c bytes) next
line_told settings skips s line next = grid_told settings skips s line next
