-- A call that is skipped is told of, unless its run is given up; so a run that tells of no skip has none.
use Rattle.std.proofs.Common.{◌≡◌, List, [], sym, ◌∙◌, subst, true≢false}
use Rattle.grid_base.specs.Objects.{Object}
use Rattle.grid_base.specs.declared.names.CallId.{CallId}
use Rattle.grid_base.specs.declared.calls.Request.{Request}
use Rattle.partition_protocol.specs.Sequences.{IsFrontOf}
use Rattle.partition_protocol.proofs.Lists.{In, in_left, in_contains, contains_in, in_right}
use Rattle.partition_protocol.proofs.RowFacts.{false_or_not}
use Rattle.object_store.specs.Partitions.{Partition}
use Rattle.call_engine.specs.Objects.{partition_object}
use Rattle.script_lang.specs.declared.line.Line.{Line}
use Rattle.replay_run.specs.Runs.{Run, Arrival, begun, is_skipped}
use Rattle.replay_run.specs.AfterLines.{after_line, after_lines}
use Rattle.replay_run.specs.SkippedCalls.{TellsOfNoSkip, EverySkippedCallIsTold, EveryRunThatTellsOfNoSkipHasNone}
use Rattle.replay_run.proofs.Growing.{Grows, told_still, GoesBy, line_goes, lines_go}

in_front : {X : Type 0} (x : X) (xs ys : List X) → IsFrontOf xs ys → In x xs → In x ys
in_front x xs ys front i = subst (In x) front.1 (in_left x xs front.0 i)

pub none_before : (r next : Run) → Grows r next → TellsOfNoSkip next → TellsOfNoSkip r
none_before r next grows none a there is = none a (contains_in a next.arrivals (in_front a r.arrivals next.arrivals grows.arrivals (in_contains a r.arrivals there))) (told_still r next a grows is)

-- Where a run goes by the skips and tells of none, it goes so without them.
pub goes_none : (r : Run) (onward : List CallId → Run) → GoesBy r onward → (skips : List CallId) → TellsOfNoSkip (onward skips) → onward skips ≡ onward []
goes_none r onward g skips none =
    g.alike skips [] (λ a i. false_or_not (is_skipped skips a.request.id) (λ skipped.
    none a (contains_in a (onward skips).arrivals (come a i)) (g.tells skips a i skipped)))
  where
    come : (a : Arrival) → In a (g.tries skips) → In a (onward skips).arrivals
    come a i = let front = (g.grows skips).arrivals in subst (In a) front.1 (in_right a r.arrivals front.0 (g.come skips a i))

pub line_none : (o : Object Request Partition) (skips : List CallId) (r : Run) (line : Line) → TellsOfNoSkip (after_line o skips r line) → after_line o skips r line ≡ after_line o [] r line
line_none o skips r line none = goes_none r (λ s. after_line o s r line) (line_goes o r line) skips none

pub every_run_that_tells_of_no_skip_has_none : EveryRunThatTellsOfNoSkipHasNone
every_run_that_tells_of_no_skip_has_none settings members backups skips lines none =
    let o = partition_object settings in
    goes_none (begun members backups) (λ s. after_lines o s (begun members backups) lines) (lines_go o (begun members backups) lines) skips none

-- As nothing was before, all that a run has is more.
pub every_skipped_call_is_told : EverySkippedCallIsTold
every_skipped_call_is_told settings members backups skips lines lasts =
    let o = partition_object settings in
    let r = after_lines o skips (begun members backups) lines in
    let g = lines_go o (begun members backups) lines in
    let grows = g.grows skips in
    record {
      told = λ a there skipped plain. g.tells skips a (g.plain skips a (subst (In a) (sym grows.arrivals.1) (in_contains a r.arrivals there)) plain lasts) skipped;
      unmade = λ a e skipped there is. true≢false (sym skipped ∙ g.fed skips e (subst (In e) (sym grows.events.1) (in_contains e r.events there)) a is);
    }
