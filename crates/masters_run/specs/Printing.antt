-- The text of a line.
use Rattle.std.specs.Prelude.{ℕ, zero, suc, ◌+◌, if◌then◌else◌, ◌==◌, List, [], ◌∷◌, ◌++◌, length, map, Option, Some, None, codes, decimal}
use Rattle.std.specs.List.{flat_map}
use Rattle.grid_base.specs.Objects.{Object}
use Rattle.grid_base.specs.declared.names.CallId.{CallId}
use Rattle.grid_base.specs.declared.calls.Request.{Request}
use Rattle.call_engine.specs.Calls.{Settings}
use Rattle.call_engine.specs.Objects.{partition_object}
use Rattle.object_store.specs.Partitions.{Partition}
use Rattle.partition_protocol.specs.World.{World}
use Rattle.partition_protocol.specs.Events.{Event, Detect, happens, run}
use Rattle.partition_protocol.specs.Service.{numbers_below}
use Rattle.masters_protocol.specs.Members as masters
use Rattle.masters_world.specs.Decisions.{Decision, event_of}
use Rattle.masters_world.specs.Machine.{Ruled, Line, Asks, Told, asked_by, masters_say, at_once, published_by}
use Rattle.script_lang.specs.declared.line.Line.{Line as ScriptLine}
use Rattle.script_lang.specs.declared.line.Line.TheVariants as line
pub use Rattle.line_told.specs.Outcomes.{master_words}
use Rattle.replay_run.specs.Dumps.{number}
use Rattle.replay_run.specs.Runs.{partitions}
use Rattle.replay_run.specs.Appending.{appended_text, new_messages}
use Rattle.replay_run.specs.Printing.{ok_text, nothing_text, flow_text, words_line, words_of, fate_words, done_word, deliveries}
use Rattle.replay_run.specs.Printing as grid
use Rattle.masters_run.specs.Runs.{RuledRun, has_masters, masters_at, ruled_at, goes, link_between, handing_over, counted}
use Rattle.masters_run.specs.AfterLines.{Asked, asked_at}

-- what an event of a partition comes to
abbrev pub event_words : {State : Type 0} → Object Request State → World Request → Event Request → List ℕ
event_words o w e = words_of (done_word e) (happens o w e).outcome

-- The line says what the masters answer; where they weren't asked, what happened at once; and where nothing did, that.
abbrev pub said : List masters.Outcome → List (List ℕ) → List ℕ
said (x ∷ xs) words = master_words x
said [] (w ∷ ws) = w
said [] [] = codes "nothing"

abbrev pub outcome_words : {State : Type 0} → Object Request State → Ruled Request → Line Request → List ℕ
outcome_words o j l = said (masters_say j.masters (asked_by j l)) (map (event_words o j.world) (at_once j l))

-- what was published

-- A detection came to something or not, as on a line of its own.
abbrev pub published_words : {State : Type 0} → Object Request State → World Request → Event Request → List ℕ
published_words o w (Detect m) = fate_words (happens o w (Detect m)).outcome
published_words o w e = event_words o w e

-- `I published P NUMBER`, and on a line of its own what the decision's event came to
abbrev pub published_text : {State : Type 0} → Object Request State → ℕ → ℕ → ℕ → World Request → Decision → List ℕ
published_text o line p n w d = words_line line (codes "published " ++ number p ++ decimal n) ++ words_line line (published_words o w (event_of w.members d))

-- one decision at most
abbrev pub published_texts : {State : Type 0} → Object Request State → ℕ → ℕ → ℕ → World Request → List Decision → List ℕ
published_texts o line p n w [] = []
published_texts o line p n w (d ∷ ds) = published_text o line p n w d ++ published_texts o line p (n + 1) (happens o w (event_of w.members d)).world ds

-- what follows the outcome of what is asked for in a partition: what was published, and the messages that were appended
abbrev pub followed : Object Request Partition → List CallId → RuledRun → ℕ → Line Request → List ℕ
followed o skips s p l =
    let j = ruled_at o s p in
    published_texts o s.run.lines p (length j.masters.published + 1) (run o j.world (at_once j l)) (published_by j l)
    ++ flat_map appended_text (new_messages s.run (goes o skips s p l).run)

abbrev pub followed_in : Object Request Partition → List CallId → RuledRun → Line Request → List ℕ → List ℕ
followed_in o skips s l [] = []
followed_in o skips s l (p ∷ ps) = followed o skips s p l ++ followed_in o skips (goes o skips s p l) l ps

-- `mflow`: how many messages were handed over, and what followed each

abbrev pub handed_over : Object Request Partition → List CallId → RuledRun → ℕ → ℕ → ℕ
handed_over o skips s p zero = 0
handed_over o skips s p (suc most) = elim (link_between (masters_at s p)) [ None ↦ 0 | Some l ↦ suc (handed_over o skips (goes o skips s p (handing_over l)) p most) ]

abbrev pub followed_each : Object Request Partition → List CallId → RuledRun → ℕ → ℕ → List ℕ
followed_each o skips s p zero = []
followed_each o skips s p (suc most) = elim (link_between (masters_at s p)) [ None ↦ [] | Some l ↦ followed o skips s p (handing_over l) ++ followed_each o skips (goes o skips s p (handing_over l)) p most ]

-- lines

-- a line that is the grid's own
abbrev pub grid_text : Settings → List CallId → RuledRun → ScriptLine → RuledRun → List ℕ
grid_text settings skips s line next = grid.line_text settings skips s.run line next.run

abbrev pub flowed_text : RuledRun → RuledRun → List ℕ
flowed_text s next = flow_text next.run.lines (deliveries s.run next.run) ++ flat_map appended_text (new_messages s.run next.run)

-- of a line that asks for something in one partition, once it is counted
abbrev pub asked_text : Object Request Partition → List CallId → RuledRun → ℕ → Line Request → List ℕ
asked_text o skips s p l = words_line s.run.lines (outcome_words o (ruled_at o s p) l) ++ followed o skips s p l

abbrev pub asked_text_of : Settings → List CallId → RuledRun → ScriptLine → RuledRun → Option Asked → List ℕ
asked_text_of settings skips s line next None = grid_text settings skips s line next
asked_text_of settings skips s line next (Some a) = asked_text (partition_object settings) skips (counted s) a.partition a.line

-- Whoever is told is told in all partitions or in none, so the first tells.
abbrev pub told_text : Object Request Partition → List CallId → RuledRun → Line Request → List ℕ
told_text o skips s l = words_line s.run.lines (outcome_words o (ruled_at o s 0) l) ++ followed_in o skips s l (numbers_below partitions)

abbrev pub ruled_text : Settings → List CallId → RuledRun → ScriptLine → RuledRun → List ℕ
ruled_text settings skips s line.Masters next = nothing_text next.run.lines
ruled_text settings skips s (line.Rebalance most) next = nothing_text next.run.lines
ruled_text settings skips s (line.Flow p most) next = flowed_text s next
ruled_text settings skips s (line.FlowAll most) next = flowed_text s next
ruled_text settings skips s (line.MasterFlow p most) next = let o = partition_object settings in flow_text next.run.lines (handed_over o skips (counted s) p most) ++ followed_each o skips (counted s) p most
ruled_text settings skips s (line.Told m x) next = told_text (partition_object settings) skips (counted s) (Told m x)
ruled_text settings skips s (line.Detect m) next = ok_text next.run.lines ++ followed_in (partition_object settings) skips (counted s) (Asks (Detect m)) (numbers_below partitions)
ruled_text settings skips s (line.Crash m) next = grid_text settings skips s (line.Crash m) next
ruled_text settings skips s line next = asked_text_of settings skips s line next (asked_at line)

abbrev pub unruled_text : Settings → List CallId → RuledRun → ScriptLine → RuledRun → List ℕ
unruled_text settings skips s line.Masters next = if s.run.lines == 1 then ok_text next.run.lines else nothing_text next.run.lines
unruled_text settings skips s line next = grid_text settings skips s line next

abbrev pub line_text : Settings → List CallId → RuledRun → ScriptLine → RuledRun → List ℕ
line_text settings skips s line next = if has_masters s then ruled_text settings skips s line next else unruled_text settings skips s line next
