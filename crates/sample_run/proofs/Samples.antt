-- The summary of a script's run.
use Rattle.std.proofs.Common.{◌≡◌, ℕ, List, [], map, ap, sym, ◌∙◌, subst, arith}
use Rattle.std.specs.Prelude.{count_by}
use Rattle.std.specs.declared.alloc.Global.{Global}
use Rattle.std.specs.declared.dyn_box.DynBox.{DynBox}
use Rattle.grid_base.specs.declared.names.CallId.{CallId}
use Rattle.call_engine.specs.Objects.{partition_object}
use Rattle.script_lang.specs.declared.line.Line.{Line}
use Rattle.replay_run.specs.declared.grid.Grid.{Grid}
use Rattle.replay_run.specs.declared.counts.Counts.{Counts}
use Rattle.replay_run.specs.Runs.{begun}
use Rattle.replay_run.specs.Counts.{is_out_of_memory, counts_of}
use Rattle.replay_run.specs.Grids.{FormOf, Stands}
use Rattle.replay_run.specs.ScriptRuns.{IsRun, grid_begun}
use Rattle.replay_run.proofs.Lines.{lines_run}
use Rattle.replay_run.proofs.Skipped.{every_run_that_tells_of_no_skip_has_none}
use Rattle.sample_run.specs.SampleRuns.{sample_settings, run_of, later_lines, StandsAfter}
use Rattle.sample_run.specs.Summaries.{summary_after, summary_of, IsSummaryOf}
use Rattle.sample_run.specs.declared.summary.Summary.{Summary}
use Rattle.sample_run.proofs.RefusedOnce.{tells_of_none}
use Rattle.sample_run.proofs.Sampling.{stands_first}

-- the grid of the first line, which has no processors
pub stands_begun : {V : Type 0} {T : V → Type 0} (form : FormOf V T) (processors : List (DynBox V Global T)) (grid : Grid V T) → processors ≡ [] → Stands form (record { forms = map form processors; capacity = 100 }) grid (begun 4 1)
    → StandsAfter form grid []
stands_begun form processors grid none stands =
    stands_first form grid (subst (λ ps. Stands form (record { forms = map form ps; capacity = 100 }) grid (begun 4 1)) none stands)

pub is_summary : {V : Type 0} {T : V → Type 0} {form : FormOf V T} (grid : Grid V T) (number lines : ℕ) (counts : Counts) (stands : StandsAfter form grid (later_lines number))
    → let r = run_of stands.skips (later_lines number) in lines ≡ r.lines → counts ≡ counts_of sample_settings r → IsSummaryOf number (record { lines = lines; counts = counts })
is_summary grid number lines counts stands counted told = record {
  skips = stands.skips;
  arrived = stands.arrived;
  goes_on = stands.stands.holds.goes_on;
  is = λ i. record { lines = counted i; counts = told i };
}

is_run : (skips : List CallId) (lines : List Line) → IsRun (partition_object sample_settings) (run_of skips lines)
is_run skips lines = lines_run skips (begun 4 1) lines (grid_begun 4 1 (omega arith))

-- a run that counts no call without memory is the one in which every call found some
without_skips : (skips : List CallId) (lines : List Line) → let r = run_of skips lines in count_by (is_out_of_memory r) r.arrivals ≡ 0 → r ≡ run_of [] lines
without_skips skips lines none = every_run_that_tells_of_no_skip_has_none sample_settings 4 1 skips lines (tells_of_none (run_of skips lines) (is_run skips lines) none)

pub is_certain : (number : ℕ) (summary : Summary) → IsSummaryOf number summary → summary.counts.memory ≡ 0 → summary ≡ summary_of number
is_certain number summary its none =
    its.is ∙ ap summary_after (without_skips its.skips (later_lines number) (ap (λ (s : Summary). s.counts.memory) (sym its.is) ∙ none))
