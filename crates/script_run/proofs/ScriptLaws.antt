-- What holds of the grid's runs holds of those of scripts, whose grid runs lines of its own.
use Rattle.std.proofs.Common.{◌≡◌, ℕ, cond, List, [], ◌∷◌, map, refl, ap, sym, ◌∙◌, subst}
use Rattle.grid_base.specs.declared.names.CallId.{CallId}
use Rattle.call_engine.specs.Calls.{Settings}
use Rattle.call_engine.specs.Objects.{partition_object}
use Rattle.script_lang.specs.declared.line.Line.{Line}
use Rattle.script_lang.specs.declared.line.Line.TheVariants.{Arrive, Near, NearGet, NearFeed}
use Rattle.replay_run.specs.Runs.{Run}
use Rattle.replay_run.specs.Appending.{new_messages}
use Rattle.replay_run.specs.Printing.{nothing_text}
use Rattle.replay_run.specs.Linearizability.{IsLinearizable}
use Rattle.replay_run.specs.SkippedCalls.{TellsOfSkips, TellsOfNoSkip}
use Rattle.replay_run.specs.Endings.{new_arrivals}
use Rattle.replay_run.specs.Skips.{AgreeOn}
use Rattle.replay_run.specs.Counts.{CountsOnce}
use Rattle.replay_run.proofs.Growing.{Grows, grows_trans, goes_nowhere}
use Rattle.replay_run.proofs.Skipped.{none_before}
use Rattle.masters_run.specs.Runs.{RuledRun}
use Rattle.masters_run.specs.Printing as ruled_text
use Rattle.masters_run.proofs.KeptLines.{bytes_text}
use Rattle.masters_run.proofs.RuledGrowing.{ruled_line_grows}
use Rattle.masters_run.proofs.RuledRuns as ruled
use Rattle.masters_run.proofs.RuledSkips as skipped
use Rattle.masters_run.proofs.SkippedTexts as line
use Rattle.script_run.specs.Runs.{ScriptRun, Look, Unmade, Hit, Miss, begun, ruled_of, is_near_connection, look, grid_line, nears_by}
use Rattle.script_run.specs.AfterLines.{noting, after_line, after_lines}
use Rattle.script_run.specs.Printing.{line_text, look_text}
use Rattle.script_run.specs.Laws.{grid_lines, EveryRunIsTheGrids, EveryRunIsLinearizable, EverySkippedCallIsTold, EveryRunThatTellsOfNoSkipHasNone, EveryCallCountsOnce}

pub every_run_is_the_grids : EveryRunIsTheGrids
every_run_is_the_grids settings skips s [] = refl
every_run_is_the_grids settings skips s (line ∷ lines) = every_run_is_the_grids settings skips (after_line settings skips s line) lines

pub every_run_is_linearizable : EveryRunIsLinearizable
every_run_is_linearizable settings members backups skips lines some =
    subst (λ (x : RuledRun). IsLinearizable settings x.run) (sym (every_run_is_the_grids settings skips (begun members backups) lines))
    (ruled.every_run_is_linearizable settings members backups skips (grid_lines settings skips (begun members backups) lines) some)

pub every_skipped_call_is_told : EverySkippedCallIsTold
every_skipped_call_is_told settings members backups skips lines lasts =
    let lines_run = grid_lines settings skips (begun members backups) lines in
    let same = every_run_is_the_grids settings skips (begun members backups) lines in
    subst (λ (x : RuledRun). TellsOfSkips skips x.run) (sym same) (skipped.every_skipped_call_is_told settings members backups skips lines_run (ap (λ (x : RuledRun). x.run.full) (sym same) ∙ lasts))

pub every_call_counts_once : EveryCallCountsOnce
every_call_counts_once settings members backups skips lines some =
    subst (λ (x : RuledRun). CountsOnce settings x.run) (sym (every_run_is_the_grids settings skips (begun members backups) lines))
    (ruled.every_call_counts_once settings members backups skips (grid_lines settings skips (begun members backups) lines) some)

-- a line of a script, by what its grid comes to
with_grid : (settings : Settings) (s : ScriptRun) (line : Line) → RuledRun → ScriptRun
with_grid settings s line next = record { run = next.run; masters = next.masters; nears = map (noting (new_messages s.run next.run)) (nears_by (partition_object settings) s line) }

-- a line of which the run tells no skip skips none
pub whole_line_none : (settings : Settings) (skips : List CallId) (s : ScriptRun) (line : Line) → TellsOfNoSkip (after_line settings skips s line).run
    → after_line settings skips s line ≡ after_line settings [] s line
unfolding with_grid
whole_line_none settings skips s asked none = ap (with_grid settings s asked) (line.line_none settings skips (ruled_of s) (grid_line (partition_object settings) s asked) none)

-- A line asks of the skips only which of the calls are among them that come to their end at it,
pub whole_line_alike : (settings : Settings) (s k : List CallId) (r : ScriptRun) (line : Line) → AgreeOn (new_arrivals r.run (after_line settings s r line).run) s k
    → after_line settings s r line ≡ after_line settings k r line
unfolding with_grid
whole_line_alike settings s k r asked agree = ap (with_grid settings r asked) (line.line_alike settings s k (ruled_of r) (grid_line (partition_object settings) r asked) agree)

-- and so does its text.

same_look : (settings : Settings) (s k : List CallId) (r : Run) (c : ℕ) (key : List ℕ) (next : Run) (found : Look) → look_text settings s r c key next found ≡ look_text settings k r c key next found
same_look settings s k r c key next Unmade = refl
same_look settings s k r c key next (Hit n value) = refl
same_look settings s k r c key next (Miss n) = refl

-- the text of bytes is told by no skips
same_bytes : (settings : Settings) (s k : List CallId) (r : RuledRun) (c : ℕ) (bytes : List ℕ) (next : RuledRun) → ruled_text.line_text settings s r (Arrive c bytes) next ≡ ruled_text.line_text settings k r (Arrive c bytes) next
same_bytes settings s k r c bytes next = bytes_text settings s r c bytes next ∙ sym (bytes_text settings k r c bytes next)

-- that of a line that is the grid's own by what that tells of it
same_text : (settings : Settings) (s k : List CallId) (r : ScriptRun) (line : Line) (next : ScriptRun)
    → ruled_text.line_text settings s (ruled_of r) (grid_line (partition_object settings) r line) (ruled_of next) ≡ ruled_text.line_text settings k (ruled_of r) (grid_line (partition_object settings) r line) (ruled_of next)
    → line_text settings s r line next ≡ line_text settings k r line next
same_text settings s k r (Near c name capacity) next same = refl
same_text settings s k r (NearGet c key) next same = same_look settings s k r.run c key next.run (look (partition_object settings) r c key)
same_text settings s k r (NearFeed c most) next same = refl
same_text settings s k r (Arrive c bytes) next same = ap (cond (is_near_connection r c) (nothing_text next.run.lines)) (same_bytes settings s k (ruled_of r) c bytes (ruled_of next))
same_text settings s k r line next same = same

pub text_alike : (settings : Settings) (s k : List CallId) (r : ScriptRun) (line : Line) (next : ScriptRun) → AgreeOn (new_arrivals r.run (after_line settings s r line).run) s k
    → line_text settings s r line next ≡ line_text settings k r line next
text_alike settings s k r asked next agree = same_text settings s k r asked next (line.text_alike settings s k (ruled_of r) (grid_line (partition_object settings) r asked) (ruled_of next) agree)

-- and where the run tells of no skip.
pub text_none : (settings : Settings) (skips : List CallId) (r : ScriptRun) (line : Line) (next : ScriptRun) → TellsOfNoSkip (after_line settings skips r line).run
    → line_text settings skips r line next ≡ line_text settings [] r line next
text_none settings skips r asked next none = same_text settings skips [] r asked next (line.text_none settings skips (ruled_of r) (grid_line (partition_object settings) r asked) (ruled_of next) none)

pub whole_line_grows : (settings : Settings) (skips : List CallId) (s : ScriptRun) (line : Line) → Grows s.run (after_line settings skips s line).run
whole_line_grows settings skips s asked = ruled_line_grows (partition_object settings) skips (ruled_of s) (grid_line (partition_object settings) s asked)

pub whole_lines_grow : (settings : Settings) (skips : List CallId) (s : ScriptRun) (lines : List Line) → Grows s.run (after_lines settings skips s lines).run
whole_lines_grow settings skips s [] = (goes_nowhere s.run).grows skips
whole_lines_grow settings skips s (line ∷ lines) =
    let next = after_line settings skips s line in
    grows_trans s.run next.run (after_lines settings skips next lines).run (whole_line_grows settings skips s line) (whole_lines_grow settings skips next lines)

lines_none : (settings : Settings) (skips : List CallId) (s : ScriptRun) (lines : List Line) → TellsOfNoSkip (after_lines settings skips s lines).run
    → after_lines settings skips s lines ≡ after_lines settings [] s lines
lines_none settings skips s [] none = refl
lines_none settings skips s (line ∷ lines) none =
    let next = after_line settings skips s line in
    lines_none settings skips next lines none
    ∙ ap (λ mid. after_lines settings [] mid lines)
    (whole_line_none settings skips s line (none_before next.run (after_lines settings skips next lines).run (whole_lines_grow settings skips next lines) none))

pub every_run_that_tells_of_no_skip_has_none : EveryRunThatTellsOfNoSkipHasNone
every_run_that_tells_of_no_skip_has_none settings members backups skips lines = lines_none settings skips (begun members backups) lines
