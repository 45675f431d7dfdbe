use Rattle.std.proofs.Common.{ap, ◌∙◌, cond}
use Rattle.partition_world.specs.Events.{event_of, happened_of}
use Rattle.line_told.specs.Happenings.{event_told, fate_told}
use Rattle.masters_run.specs.LineTold.{is_detection}
use Rattle.masters_run.proofs.PublishedEvents.{taken_so}
use Rattle.masters_run.proofs.grid.RuledGrid.run_published.Goals as goal

pub returns-clause-ok : goal.returns-clause-ok
returns-clause-ok g c = λ settings r amid.
    let e = event_of c.args.event in
    let happened = c.in_ok-happened.happened in
    let x = happened_of happened in
    let came = c.published_outcome-outcome.ensures
    ∙ ap (λ b. cond b (fate_told x) (event_told c.is_advance-advances.result x)) c.is_detection-detects.ensures ∙ ap (λ a. cond (is_detection e) (fate_told x) (event_told a x)) c.is_advance-advances.ensures in
    taken_so _ settings c.take.new.self r c.args.partition e happened c.new-messages.result.items c.take.new.out.items c.new-messages.ensures.items (c.in_ok-happened.ensures.ok settings r amid)
    c.args.out.now.items c.tell_with.new.out.items c.published_outcome-outcome.result came c.in_ok-tell_with.ensures
