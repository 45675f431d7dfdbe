use Rattle.std.proofs.Common.{◌≡◌, ◌+◌, ◌<◌, length, ◌^◌, ◌∙◌, sym, subst, arith}
use Rattle.std.specs.List.{sum_by}
use Rattle.std.specs.Prelude.{count_by}
use Rattle.std.proofs.lemmas.List.Sums.{count_by-le-length}
use Rattle.partition_protocol.specs.Service.{numbers_below}
use Rattle.call_engine.specs.Objects.{partition_object}
use Rattle.replay_run.specs.Runs.{partitions}
use Rattle.replay_run.specs.Counts.{is_answered, is_waiting}
use Rattle.replay_run.proofs.AnswerMarks.{answers_marked}
use Rattle.replay_run.proofs.CallKinds.{kinds_of_all}
use Rattle.replay_run.proofs.EntryCounts.{entries_at, length-all_entries, entries_fit, field_below}
use Rattle.replay_run.proofs.RunFacts.{RunOk}
use Rattle.replay_run.proofs.RunsOfLines.{run_ok, unheard_unanswered}
use Rattle.replay_run.proofs.grid.Grid.counts.Goals as goal

pub returns : goal.returns
returns g c = λ settings r s.
    let grid = c.args.self.now in
    let o = partition_object settings in
    let ok : RunOk (partition_object settings) r = run_ok s.run in
    let tally = s.holds.tally in
    let marked = c.answered.ensures ∙ answers_marked r ok.of_arrivals (unheard_unanswered r s.run) grid.connections s.holds.table in
    let fewer = count_by-le-length (is_answered r) r.arrivals in
    let answered : c.as_field-answered.result ≡ count_by (is_answered r) r.arrivals = c.as_field-answered.ensures (omega (arith, marked, fewer, tally.arrived)) ∙ marked in
    let all = kinds_of_all (partition_object settings) r ok in
    let waiting : c.saturating_sub-3.result ≡ count_by (is_waiting r) r.arrivals + length r.waiters =
    omega (arith, c.saturating_sub.ensures, c.saturating_sub-2.ensures, c.saturating_sub-3.ensures, answered, all, tally.arrived, tally.refused, tally.memory) in
    let small = entries_fit (partition_object settings) r s.run s.small s.bounded in
    let told : c.entries.result ≡ sum_by (entries_at (partition_object settings) r) (numbers_below partitions) = c.entries.ensures settings r s (field_below (sum_by (entries_at (partition_object settings) r) (numbers_below partitions)) small) in
    let entries = c.as_field.ensures (subst (λ n. n < 2 ^ 32) (sym told) small) ∙ told ∙ sym (length-all_entries (partition_object settings) r) in
    let lost = c.lost.ensures settings r s in
    λ i. record {
      arrived = tally.arrived i;
      answered = answered i;
      refused = tally.refused i;
      memory = tally.memory i;
      waiting = waiting i;
      entries = entries i;
      lost = lost i;
    }
