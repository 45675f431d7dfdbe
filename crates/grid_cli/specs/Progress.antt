-- How far a script was run: the lines so far, what was written of its transcript, and the run from which it goes on.
use Rattle.std.specs.Prelude.{◌≡◌, ℕ, false, true, List, [], ◌∷◌, ◌++◌, length, Option, Result, Ok, Err, Contains}
use Rattle.grid_base.specs.declared.names.CallId.{CallId}
use Rattle.script_lang.specs.Lines.{line_of}
use Rattle.script_lang.specs.declared.line.Line.{Line}
use Rattle.script_lang.specs.declared.line.Line.TheVariants.{Grid}
use Rattle.script_lang.specs.declared.refusal.LineWhy.{LineWhy}
use Rattle.entry_processors.specs.Processors.{ProcessorForm}
use Rattle.call_engine.specs.Calls.{Settings}
use Rattle.replay_run.specs.Runs.{Arrival}
use Rattle.script_run.specs.Runs.{ScriptRun, begun}
use Rattle.script_run.specs.AfterLines.{after_line}
use Rattle.replay_run.specs.Skips.{AgreeOn}
use Rattle.grid_cli.specs.Transcripts.{settings, first_line, later_lines, following}
use Rattle.grid_cli.specs.declared.status.LimitWhat.{LimitWhat}

-- the run after these lines, up to the first that isn't in the grammar
abbrev pub run_after : Settings → List CallId → ScriptRun → List (List ℕ) → ScriptRun
run_after s skips r [] = r
run_after s skips r (text ∷ texts) = elim (line_of false r.run.members text) [ Err why ↦ r | Ok line ↦ run_after s skips (after_line s skips r line) texts ]

-- The first line makes the grid. Where it isn't a grid's, nothing runs.
abbrev pub begun_by : Result Line LineWhy → ScriptRun
begun_by (Ok (Grid members backups capacity)) = begun members backups
begun_by line = begun 1 0

-- the capacity that the first line of a script gives its queues
abbrev pub capacity_by : Result Line LineWhy → ℕ
capacity_by (Ok (Grid members backups capacity)) = capacity
capacity_by line = 0

abbrev pub capacity_of : List (List ℕ) → ℕ
capacity_of [] = 0
capacity_of (first ∷ texts) = capacity_by (line_of true 0 first)

-- the run after the lines of a script
abbrev pub run_of : List ProcessorForm → List CallId → List (List ℕ) → ScriptRun
run_of forms skips [] = begun 1 0
run_of forms skips (first ∷ texts) = let line = line_of true 0 first in run_after (settings forms (capacity_by line)) skips (begun_by line) texts

-- After these lines the run is this and this was written, whatever lines follow, and whichever of their calls find no memory.
pub record IsAt (forms : List ProcessorForm) (capacity : ℕ) (r : ScriptRun) (skips : List CallId) (done : List (List ℕ)) (written : List ℕ) : Type 0 where
  pub goes_on : (s : List CallId) → AgreeOn r.run.arrivals s skips → (limit : Option LimitWhat) (texts : List (List ℕ))
      → first_line forms s limit (done ++ texts) ≡ following written (later_lines (settings forms capacity) s limit r texts)
  pub runs : (s : List CallId) → AgreeOn r.run.arrivals s skips → (texts : List (List ℕ)) → run_of forms s (done ++ texts) ≡ run_after (settings forms capacity) s r texts
  pub keeps : (texts : List (List ℕ)) → capacity_of (done ++ texts) ≡ capacity
  -- the skips are calls that arrived, and wait no more
  pub skipped : (id : CallId) → Contains skips id → (a : Arrival) × Contains r.run.arrivals a × (a.request.id ≡ id)
  pub count : r.run.lines ≡ length done
