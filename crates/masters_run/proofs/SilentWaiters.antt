-- Whoever waits has changed nothing.
use Rattle.std.proofs.Common.{◌++◌, filter, refl, sym, ◌∙◌, subst}
use Rattle.grid_base.specs.declared.calls.Request.{Request}
use Rattle.partition_protocol.proofs.Lists.{In, in_contains}
use Rattle.partition_protocol.proofs.RowFacts.{number_same}
use Rattle.waiting_protocol.specs.Claims.{IsWithout, waits_in}
use Rattle.waiting_protocol.specs.Machine.{Waiting, start, after}
use Rattle.replay_run.specs.ByMachine.{terms_by}
use Rattle.replay_run.specs.Runs.{as_machine}
use Rattle.replay_run.specs.Staying.{waiting_in}
use Rattle.replay_run.proofs.ByMachine.{is_in}
use Rattle.replay_run.proofs.Parts.{in_map, in_filter}
use Rattle.masters_run.specs.Silent.{EveryWaiterChangesNothing}
use Rattle.masters_run.proofs.Silence.{silent}

pub every_waiter_changes_nothing : EveryWaiterChangesNothing
every_waiter_changes_nothing o skips r w there goes =
    let t = terms_by skips in
    let p = w.request.partition in
    let x = as_machine w in
    let by = goes.by in
    let came : In x (waits_in by.lines) = in_contains x (waits_in by.lines) (goes.calls.waiting w there refl) in
    let listed : In x (waiting_in o r p).waiters = in_map as_machine (filter (is_in p) r.waiters) w (in_filter (is_in p) r.waiters w (in_contains w r.waiters there) (number_same p p refl)) in
    let waits : In x (after o t (start p r.members r.backups) by.lines).waiters = subst (λ (j : Waiting Request). In x j.waiters) by.states listed in
    let h = silent o t p r.members r.backups x by.lines goes.calls.once came waits in
    record {
      before = h.before;
      more = h.more;
      arrives = h.arrives;
      states = subst (λ (j : Waiting Request). IsWithout x j (after o t (start p r.members r.backups) (h.before ++ h.more))) (sym by.states) h.states;
      happened = by.happened ∙ h.happened;
      left = h.left;
    }
