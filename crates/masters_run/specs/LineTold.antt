-- What a line of a grid with masters tells, as data.
use Rattle.std.specs.Prelude.{ℕ, zero, suc, ◌+◌, Bool, true, false, if◌then◌else◌, ◌==◌, List, [], ◌∷◌, ◌++◌, length, map, Option, Some, None}
use Rattle.grid_base.specs.Objects.{Object}
use Rattle.grid_base.specs.declared.names.CallId.{CallId}
use Rattle.grid_base.specs.declared.calls.Request.{Request}
use Rattle.call_engine.specs.Calls.{Settings}
use Rattle.call_engine.specs.Objects.{partition_object}
use Rattle.object_store.specs.Partitions.{Partition}
use Rattle.partition_protocol.specs.World.{World}
use Rattle.partition_protocol.specs.Events.{Event, Detect, happens, run}
use Rattle.partition_protocol.specs.Service.{numbers_below}
use Rattle.masters_protocol.specs.Members as masters
use Rattle.masters_world.specs.Decisions.{Decision, event_of}
use Rattle.masters_world.specs.Machine.{Ruled, Line, Asks, Told as ToldOf, asked_by, masters_say, at_once, published_by}
use Rattle.script_lang.specs.declared.line.Line.{Line as ScriptLine}
use Rattle.script_lang.specs.declared.line.Line.TheVariants as line
use Rattle.line_told.specs.Happenings.{event_told, fate_told, master_told}
use Rattle.line_told.specs.declared.told.LineOutcome.{LineOutcome}
use Rattle.line_told.specs.declared.told.LineOutcome.TheVariants as outcome
use Rattle.line_told.specs.declared.told.Told.{Told}
use Rattle.line_told.specs.declared.told.Told.TheVariants as told
use Rattle.replay_run.specs.Appending.{new_messages}
use Rattle.replay_run.specs.LineTold.{came_to, all_told, is_advance}
use Rattle.replay_run.specs.LineTold as grid
use Rattle.replay_run.specs.Printing.{deliveries}
use Rattle.replay_run.specs.Runs.{partitions}
use Rattle.masters_run.specs.AfterLines.{Asked, asked_at}
use Rattle.masters_run.specs.Printing.{handed_over}
use Rattle.masters_run.specs.Runs.{RuledRun, has_masters, masters_at, ruled_at, goes, link_between, handing_over, counted}

-- outcomes

-- what an event of a partition comes to
abbrev pub event_outcome : {State : Type 0} → Object Request State → World Request → Event Request → LineOutcome
event_outcome o w e = event_told (is_advance e) (happens o w e).outcome

-- A line comes to what the masters answer; where they weren't asked, to what happened at once; and where nothing did, to that.
abbrev pub said : List masters.Outcome → List LineOutcome → LineOutcome
said (x ∷ xs) came = master_told x
said [] (x ∷ xs) = x
said [] [] = outcome.Idle

abbrev pub asked_outcome : {State : Type 0} → Object Request State → Ruled Request → Line Request → LineOutcome
asked_outcome o j l = said (masters_say j.masters (asked_by j l)) (map (event_outcome o j.world) (at_once j l))

-- what was published

abbrev pub is_detection : Event Request → Bool
is_detection (Detect m) = true
is_detection e = false

-- A detection came to something or not, as on a line of its own.
abbrev pub published_outcome : {State : Type 0} → Object Request State → World Request → Event Request → LineOutcome
published_outcome o w e = if is_detection e then fate_told (happens o w e).outcome else event_outcome o w e

-- that a decision was published, and its number
abbrev pub number_told : ℕ → ℕ → List Told
number_told p n = told.Published p n ∷ []

-- and what its event came to
abbrev pub published_told : {State : Type 0} → Object Request State → ℕ → ℕ → World Request → Decision → List Told
published_told o p n w d = number_told p n ++ came_to (published_outcome o w (event_of w.members d))

-- one decision at most
abbrev pub all_published : {State : Type 0} → Object Request State → ℕ → ℕ → World Request → List Decision → List Told
all_published o p n w [] = []
all_published o p n w (d ∷ ds) = published_told o p n w d ++ all_published o p (n + 1) (happens o w (event_of w.members d)).world ds

-- what follows the outcome of what is asked for in a partition: what was published, and the messages that were appended
abbrev pub followed : Object Request Partition → List CallId → RuledRun → ℕ → Line Request → List Told
followed o skips s p l =
    let j = ruled_at o s p in
    all_published o p (length j.masters.published + 1) (run o j.world (at_once j l)) (published_by j l)
    ++ all_told (new_messages s.run (goes o skips s p l).run)

abbrev pub followed_in : Object Request Partition → List CallId → RuledRun → Line Request → List ℕ → List Told
followed_in o skips s l [] = []
followed_in o skips s l (p ∷ ps) = followed o skips s p l ++ followed_in o skips (goes o skips s p l) l ps

-- `mflow`: what followed each message that was handed over
abbrev pub followed_each : Object Request Partition → List CallId → RuledRun → ℕ → ℕ → List Told
followed_each o skips s p zero = []
followed_each o skips s p (suc most) = elim (link_between (masters_at s p)) [ None ↦ [] | Some l ↦ followed o skips s p (handing_over l) ++ followed_each o skips (goes o skips s p (handing_over l)) p most ]

-- lines

-- a line that is the grid's own
abbrev pub grid_told : Settings → List CallId → RuledRun → ScriptLine → RuledRun → List Told
grid_told settings skips s line next = grid.line_told settings skips s.run line next.run

abbrev pub flowed_told : RuledRun → RuledRun → List Told
flowed_told s next = came_to (outcome.Flowed (deliveries s.run next.run)) ++ all_told (new_messages s.run next.run)

-- of a line that asks for something in one partition, once it is counted
abbrev pub asked_told : Object Request Partition → List CallId → RuledRun → ℕ → Line Request → List Told
asked_told o skips s p l = came_to (asked_outcome o (ruled_at o s p) l) ++ followed o skips s p l

abbrev pub asked_told_of : Settings → List CallId → RuledRun → ScriptLine → RuledRun → Option Asked → List Told
asked_told_of settings skips s line next None = grid_told settings skips s line next
asked_told_of settings skips s line next (Some a) = asked_told (partition_object settings) skips (counted s) a.partition a.line

-- Whoever is told is told in all partitions or in none, so the first tells.
abbrev pub crash_told : Object Request Partition → List CallId → RuledRun → Line Request → List Told
crash_told o skips s l = came_to (asked_outcome o (ruled_at o s 0) l) ++ followed_in o skips s l (numbers_below partitions)

abbrev pub ruled_told : Settings → List CallId → RuledRun → ScriptLine → RuledRun → List Told
ruled_told settings skips s line.Masters next = came_to outcome.Idle
ruled_told settings skips s (line.Rebalance most) next = came_to outcome.Idle
ruled_told settings skips s (line.Flow p most) next = flowed_told s next
ruled_told settings skips s (line.FlowAll most) next = flowed_told s next
ruled_told settings skips s (line.MasterFlow p most) next = let o = partition_object settings in came_to (outcome.Flowed (handed_over o skips (counted s) p most)) ++ followed_each o skips (counted s) p most
ruled_told settings skips s (line.Told m x) next = crash_told (partition_object settings) skips (counted s) (ToldOf m x)
ruled_told settings skips s (line.Detect m) next = came_to outcome.Ran ++ followed_in (partition_object settings) skips (counted s) (Asks (Detect m)) (numbers_below partitions)
ruled_told settings skips s (line.Crash m) next = grid_told settings skips s (line.Crash m) next
ruled_told settings skips s line next = asked_told_of settings skips s line next (asked_at line)

abbrev pub unruled_told : Settings → List CallId → RuledRun → ScriptLine → RuledRun → List Told
unruled_told settings skips s line.Masters next = came_to (if s.run.lines == 1 then outcome.Ran else outcome.Idle)
unruled_told settings skips s line next = grid_told settings skips s line next

abbrev pub line_told : Settings → List CallId → RuledRun → ScriptLine → RuledRun → List Told
line_told settings skips s line next = if has_masters s then ruled_told settings skips s line next else unruled_told settings skips s line next

-- What it writes as it goes: the objects, the messages in flight and the entries of a line that is the grid's own. No line of masters writes any.
abbrev pub line_printed : Settings → RuledRun → ScriptLine → List ℕ
line_printed settings s line = grid.line_printed settings s.run line
