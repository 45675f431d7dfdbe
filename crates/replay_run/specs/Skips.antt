-- Which calls of a script found no memory, line by line.
use Rattle.std.specs.Prelude.{◌≡◌, List, Contains}
use Rattle.grid_base.specs.Objects.{Object}
use Rattle.grid_base.specs.declared.calls.Request.{Request}
use Rattle.grid_base.specs.declared.names.CallId.{CallId}
use Rattle.object_store.specs.Partitions.{Partition}
use Rattle.script_lang.specs.declared.line.Line.{Line}
use Rattle.replay_run.specs.Runs.{Run, Arrival, is_skipped}
use Rattle.replay_run.specs.AfterLines.{after_line}
use Rattle.replay_run.specs.Endings.{AreAmong, new_arrivals}

-- The skips of a line are among the calls that came to their end at it: those that it brought, and those that had waited.
abbrev pub AreOfLine : Object Request Partition → Run → Line → List CallId → Type 0
AreOfLine o r line skips = AreAmong (new_arrivals r (after_line o skips r line)) skips

-- two lists skip the same of these calls
abbrev pub AgreeOn : List Arrival → List CallId → List CallId → Type 0
AgreeOn come s t = (a : Arrival) → Contains come a → is_skipped s a.request.id ≡ is_skipped t a.request.id
