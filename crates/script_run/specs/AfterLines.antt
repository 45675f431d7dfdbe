-- The run of a script after a line, and after several.
use Rattle.std.specs.Prelude.{List, [], ◌∷◌, ◌++◌, map}
use Rattle.grid_base.specs.declared.names.CallId.{CallId}
use Rattle.call_engine.specs.Calls.{Settings}
use Rattle.call_engine.specs.Objects.{partition_object}
use Rattle.script_lang.specs.declared.line.Line.{Line}
use Rattle.replay_run.specs.Appending.{new_messages}
use Rattle.replay_run.specs.Runs.{Appended}
use Rattle.masters_run.specs.AfterLines as ruled
use Rattle.script_run.specs.NearClients.{NearClient}
use Rattle.script_run.specs.Outputs.{sent_to}
use Rattle.script_run.specs.Runs.{ScriptRun, ruled_of, grid_line, nears_by}

-- what was appended to the connection is yet to be read
abbrev pub noting : List Appended → NearClient → NearClient
noting messages n = record n { unread = n.unread ++ sent_to n.conn messages }

-- The grid runs a line, and each near connection's output grows by what that appends.
abbrev pub played : Settings → List CallId → ScriptRun → Line → ScriptRun
played settings skips s line =
    let next = ruled.after_line (partition_object settings) skips (ruled_of s) line in
    record { run = next.run; masters = next.masters; nears = map (noting (new_messages s.run next.run)) s.nears }

-- A line is something to the near clients, and something to the grid.
abbrev pub after_line : Settings → List CallId → ScriptRun → Line → ScriptRun
after_line settings skips s line = played settings skips (record s { nears = nears_by (partition_object settings) s line }) (grid_line (partition_object settings) s line)

abbrev pub after_lines : Settings → List CallId → ScriptRun → List Line → ScriptRun
after_lines settings skips s [] = s
after_lines settings skips s (line ∷ lines) = after_lines settings skips (after_line settings skips s line) lines
