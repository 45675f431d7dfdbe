use Rattle.std.proofs.Common.{◌∙◌, Err, Some, ap, arith}
use Rattle.partition_world.specs.Events.{event_of}
use Rattle.call_engine.specs.Objects.{partition_object}
use Rattle.replay_run.specs.Runs.{At, next_line, takes}
use Rattle.replay_run.specs.LineTold.{came_to}
use Rattle.line_told.specs.Happenings.{event_told}
use Rattle.replay_run.specs.Grids.{most_arriving}
use Rattle.replay_run.specs.declared.run_end.RunEnd.TheVariants.{InFlight}
use Rattle.replay_run.proofs.Asking.{handed_on}
use Rattle.replay_run.proofs.Bounds.{event_line_few}
use Rattle.replay_run.proofs.EventRuns.{takes_kept}
use Rattle.replay_run.proofs.GridLines.{next_number, few_lines}
use Rattle.replay_run.proofs.EventLines.{counted_amid, stands_room, events_line, of_event, event_given_up}
use Rattle.replay_run.proofs.grid.Grid.run_event.Goals as goal

pub take-requires-clause-placed : goal.take-requires-clause-placed
take-requires-clause-placed g c =
    let may = c.requires.1 in
    (of_event may.settings may.run c.requires.0 (record { partition = c.args.partition; event = event_of c.args.event }) c.requires.2).within may.run.members most_arriving may.read

pub take-requires-clause-unasked : goal.take-requires-clause-unasked
take-requires-clause-unasked g c =
    let may = c.requires.1 in
    (of_event may.settings may.run c.requires.0 (record { partition = c.args.partition; event = event_of c.args.event }) c.requires.2).unasked

pub take-requires-clause-stands : goal.take-requires-clause-stands
take-requires-clause-stands g c =
    let may = c.requires.1 in
    let s = may.stands in
    (may.settings, next_line may.run, counted_amid c.args.self.now may.run c.args.number s may.next, stands_room c.args.self.now may.run s (few_lines c.args.self.now c.args.number c.requires.0 may may.run s) c.args.partition 1 (omega arith))

pub returns-in_err-happened-clause-full : goal.returns-in_err-happened-clause-full
returns-in_err-happened-clause-full g c = λ settings r line s is was.
    let at_line = next_number c.args.self.now c.args.number c.requires.0 c.requires.1 r s in
    let why = handed_on c.from_residual.result c.in_err-happened.field-0.0 InFlight c.from_residual.ensures.1 was in
    event_given_up settings r line (record { partition = c.args.partition; event = event_of c.args.event }) is
    (c.in_err-happened.ensures.full settings (next_line r) (counted_amid c.args.self.now r c.args.number s at_line) (ap Err why))

pub returns-clause-ok : goal.returns-clause-ok
returns-clause-ok g c = λ settings r line s is.
    let grid = c.args.self.now in
    let number = c.args.number in
    let p = c.args.partition in
    let event = event_of c.args.event in
    let o = partition_object settings in
    let e : At = record { partition = p; event = event } in
    let its = of_event settings r line e is in
    let at_line = next_number grid number c.requires.0 c.requires.1 r s in
    let taken = c.in_ok-happened.ensures.ok settings (next_line r) (counted_amid grid r number s at_line) in
    let skips = taken.on.skips in
    let next = takes o skips (next_line r) p event in
    let kept = takes_kept o skips (next_line r) p event in
    events_line grid c.take.new.self r skips next line s (few_lines grid number c.requires.0 c.requires.1 r s) (its.after skips) taken.on.own kept (event_line_few o skips r s.few (Some e)) (its.prints skips next)
    c.new-messages.result.items c.take.new.out.items taken.on.on
    (came_to c.of_event.result) c.args.out.now.items c.tell_outcome.new.out.items c.append.new.self.items
    c.new-messages.ensures.items
    (ap came_to c.of_event.ensures ∙ (λ i. came_to (event_told (c.is_advance-advances.ensures i) (taken.outcome i))) ∙ its.tells next)
    c.in_ok-tell_outcome.ensures
    c.in_ok-append.ensures.items
