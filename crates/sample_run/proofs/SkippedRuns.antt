-- A run asks of its skips only which of the calls are among them that come to their end in it, so one line more may come with skips of its own.
use Rattle.std.proofs.Common.{◌≡◌, List, [], ◌∷◌, ◌++◌, length, drop, refl, ap, sym, ◌∙◌, subst}
use Rattle.grid_base.specs.Objects.{Object}
use Rattle.grid_base.specs.declared.names.CallId.{CallId}
use Rattle.grid_base.specs.declared.calls.Request.{Request}
use Rattle.object_store.specs.Partitions.{Partition}
use Rattle.script_lang.specs.declared.line.Line.{Line}
use Rattle.replay_run.specs.Runs.{Run, Arrival}
use Rattle.replay_run.specs.AfterLines.{after_line, after_lines}
use Rattle.replay_run.specs.Endings.{AreAmong, new_arrivals}
use Rattle.replay_run.specs.ScriptRuns.{IsRun}
use Rattle.replay_run.specs.Skips.{AreOfLine}
use Rattle.replay_run.proofs.Growing.{line_goes, lines_go}
use Rattle.replay_run.proofs.Lines.{line_run}
use Rattle.replay_run.proofs.RunFacts.{ArrivalsOk}
use Rattle.replay_run.proofs.RunsOfLines.{run_ok}
use Rattle.replay_run.proofs.SkipLaws.{both_go, both_among}
use Rattle.sample_run.specs.SampleRuns.{HaveArrived}

pub lines-append : (o : Object Request Partition) (skips : List CallId) (r : Run) (first then : List Line) → after_lines o skips r (first ++ then) ≡ after_lines o skips (after_lines o skips r first) then
lines-append o skips r [] then = refl
lines-append o skips r (line ∷ first) then = lines-append o skips (after_line o skips r line) first then

-- Where nothing had arrived as the lines began, all arrivals are new.
all_new : (start r : Run) → start.arrivals ≡ [] → new_arrivals start r ≡ r.arrivals
all_new start r none = ap (λ (come : List Arrival). drop (length come) r.arrivals) none

-- One line more: its skips are of calls that come to their end at it, and those before it of calls that did so before.
module _ (o : Object Request Partition) (start : Run) (none : start.arrivals ≡ []) (skips : List CallId) (done : List Line) (arrived : HaveArrived skips (after_lines o skips start done)) (run : IsRun o (after_lines o skips start done))
    (line : Line) (k : List CallId) (of_line : AreOfLine o (after_lines o skips start done) line k) where
  abbrev r : Run
  r = after_lines o skips start done

  abbrev next : Run
  next = after_line o k r line

  abbrev both : List CallId
  both = skips ++ k

  abbrev before : List CallId → Run
  before s = after_lines o s start done

  abbrev last : Run → List CallId → Run
  last x s = after_line o s x line

  once : ArrivalsOk next
  once = (run_ok (line_run k r run line)).of_arrivals

  of_before : AreAmong (new_arrivals start r) skips
  of_before = subst (λ come. AreAmong come skips) (sym (all_new start r none)) arrived

  appended : after_lines o both start (done ++ line ∷ []) ≡ last (before both) both
  appended = lines-append o both start done (line ∷ [])

  pub line_more : after_lines o both start (done ++ line ∷ []) ≡ next
  line_more = appended ∙ both_go start before last (lines_go o start done) (λ x. line_goes o x line) skips k once of_before of_line

  arrived_both : HaveArrived both (last (before both) both)
  arrived_both =
      subst (λ come. AreAmong come both) (all_new start (last (before both) both) none)
      (both_among start before last (lines_go o start done) (λ x. line_goes o x line) skips k once of_before of_line)

  pub arrived_more : HaveArrived both (after_lines o both start (done ++ line ∷ []))
  arrived_more = subst (HaveArrived both) (sym appended) arrived_both
