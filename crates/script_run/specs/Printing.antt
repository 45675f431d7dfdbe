-- The text of a script's line.
use Rattle.std.specs.Prelude.{ℕ, List, [], ◌++◌, length, if◌then◌else◌, Option, Some, None, codes, decimal}
use Rattle.std.specs.Fmt.{signed_decimal}
use Rattle.std.specs.List.{flat_map}
use Rattle.grid_base.specs.declared.names.CallId.{CallId}
use Rattle.call_engine.specs.Calls.{Settings}
use Rattle.call_engine.specs.Objects.{partition_object}
use Rattle.grid_client.specs.declared.heard.Heard.{Heard}
use Rattle.grid_client.specs.declared.heard.Heard.TheVariants as heard
use Rattle.grid_client.specs.Nears.{Value}
use Rattle.script_lang.specs.declared.line.Line.{Line}
use Rattle.script_lang.specs.declared.line.Line.TheVariants.{Arrive, Near, NearGet, NearFeed}
use Rattle.line_told.specs.Printing.{text_of}
use Rattle.replay_run.specs.Dumps.{number, value_text}
use Rattle.replay_run.specs.Runs.{Run}
use Rattle.replay_run.specs.Printing.{ok_text, nothing_text, words_line, does_nothing, line_messages, line_close}
use Rattle.masters_run.specs.Printing as ruled
use Rattle.script_run.specs.declared.told.NearOutcome.{NearOutcome}
use Rattle.script_run.specs.declared.told.NearOutcome.TheVariants as near
use Rattle.script_run.specs.LineTold.{LineTold}
use Rattle.script_run.specs.NearClients.{NearClient, opening_of, get_sent, piece, told}
use Rattle.script_run.specs.Runs.{ScriptRun, ruled_of, Look, Unmade, Hit, Miss, near_of, is_near_connection, can_begin, look}

-- what bytes bring that a near client sends: the messages that they append, and their connection's close, if they showed a fault; nothing, where they can't arrive
abbrev pub brought : Settings → List CallId → Run → ℕ → List ℕ → Run → List ℕ
brought settings skips before c bytes after =
    let line = Arrive c bytes in
    if does_nothing (partition_object settings) before line then []
    else line_messages settings skips before line after ++ line_close after line

-- `I hit VALUE`
abbrev pub hit_text : ℕ → Value → List ℕ
hit_text line value = words_line line (codes "hit " ++ value_text value)

abbrev pub miss_text : ℕ → List ℕ
miss_text line = words_line line (codes "miss")

-- A miss prints what its get brings.
abbrev pub look_text : Settings → List CallId → Run → ℕ → List ℕ → Run → Look → List ℕ
look_text settings skips before c key after Unmade = nothing_text after.lines
look_text settings skips before c key after (Hit n value) = hit_text after.lines value
look_text settings skips before c key after (Miss n) = miss_text after.lines ++ brought settings skips before c (get_sent n key).request after

-- What a client makes of a message, each on a line of its own; of one that answers no look-up nothing is said.
abbrev pub heard_text : ℕ → Heard → List ℕ
heard_text line (heard.Answered correlation bytes) = []
heard_text line heard.Kept = words_line line (codes "kept")
heard_text line (heard.Overtaken version n) = words_line line (codes "overtaken " ++ number version ++ decimal n)
heard_text line heard.Invalidated = words_line line (codes "invalidated")
heard_text line (heard.Cleared partition) = words_line line (codes "cleared " ++ decimal partition)
heard_text line (heard.Refused correlation code) = words_line line (codes "refused " ++ signed_decimal code)

abbrev pub all_heard_text : ℕ → List Heard → List ℕ
all_heard_text line heard = flat_map (heard_text line) heard

-- `I fed N`
abbrev pub handed_text : ℕ → ℕ → List ℕ
handed_text line bytes = words_line line (codes "fed " ++ decimal bytes)

-- and what the client makes of the messages that these bytes complete
abbrev pub fed_text : ℕ → ℕ → Option NearClient → List ℕ
fed_text line most None = nothing_text line
fed_text line most (Some n) = handed_text line (length (piece most n)) ++ all_heard_text line (told most n).heard

-- The text of a line at which these calls found no memory.
abbrev pub line_text : Settings → List CallId → ScriptRun → Line → ScriptRun → List ℕ
line_text settings skips s (Near c name capacity) next = if can_begin s c name then ok_text next.run.lines ++ brought settings skips s.run c (opening_of c name) next.run else nothing_text next.run.lines
line_text settings skips s (NearGet c key) next = look_text settings skips s.run c key next.run (look (partition_object settings) s c key)
line_text settings skips s (NearFeed c most) next = fed_text next.run.lines most (near_of s c)
line_text settings skips s (Arrive c bytes) next = if is_near_connection s c then nothing_text next.run.lines else ruled.line_text settings skips (ruled_of s) (Arrive c bytes) (ruled_of next)
line_text settings skips s line next = ruled.line_text settings skips (ruled_of s) line (ruled_of next)

-- the law of what is told

abbrev pub near_text : ℕ → Option NearOutcome → List ℕ
near_text line None = []
near_text line (Some (near.Hit value)) = hit_text line value
near_text line (Some near.Miss) = miss_text line
near_text line (Some (near.Fed bytes)) = handed_text line bytes

-- It is printed in its order.
abbrev pub told_text : ℕ → LineTold → List ℕ
told_text line it = near_text line it.near ++ all_heard_text line it.heard ++ (text_of line it.grid ++ it.printed)
