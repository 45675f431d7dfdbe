-- A call that is skipped is told of, unless its run is given up; so a run that tells of no skip has none.
use Rattle.std.proofs.Common.{[], sym, ◌∙◌, subst, true≢false}
use Rattle.call_engine.specs.Objects.{partition_object}
use Rattle.partition_protocol.proofs.Lists.{In, in_right, in_contains, contains_in}
use Rattle.partition_protocol.proofs.RowFacts.{false_or_not}
use Rattle.replay_run.specs.Runs.{is_skipped}
use Rattle.masters_run.specs.Runs.{begun}
use Rattle.masters_run.specs.AfterLines.{after_lines}
use Rattle.masters_run.specs.Laws.{EverySkippedCallIsTold, EveryRunThatTellsOfNoSkipHasNone}
use Rattle.masters_run.proofs.RuledGrowing.{ruled_lines_go}

pub every_run_that_tells_of_no_skip_has_none : EveryRunThatTellsOfNoSkipHasNone
every_run_that_tells_of_no_skip_has_none settings members backups skips lines none =
    let o = partition_object settings in
    let first = begun members backups in
    let s = after_lines o skips first lines in
    let g = ruled_lines_go o first lines in
    let front = (g.by.grows skips).arrivals in
    g.alike skips [] (λ a i. false_or_not (is_skipped skips a.request.id) (λ skipped.
    none a (contains_in a s.run.arrivals (subst (In a) front.1 (in_right a first.run.arrivals front.0 (g.by.come skips a i)))) (g.by.tells skips a i skipped)))

-- As nothing was before, all that a run has is more.
pub every_skipped_call_is_told : EverySkippedCallIsTold
every_skipped_call_is_told settings members backups skips lines lasts =
    let o = partition_object settings in
    let r = (after_lines o skips (begun members backups) lines).run in
    let g = (ruled_lines_go o (begun members backups) lines).by in
    let grows = g.grows skips in
    record {
      told = λ a there skipped plain. g.tells skips a (g.plain skips a (subst (In a) (sym grows.arrivals.1) (in_contains a r.arrivals there)) plain lasts) skipped;
      unmade = λ a e skipped there is. true≢false (sym skipped ∙ g.fed skips e (subst (In e) (sym grows.events.1) (in_contains e r.events there)) a is);
    }
