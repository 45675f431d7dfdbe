use Rattle.std.proofs.Common.{◌∙◌, Err, ap, arith}
use Rattle.partition_protocol.specs.Service.{numbers_below}
use Rattle.call_engine.specs.Objects.{partition_object}
use Rattle.replay_run.specs.Runs.{next_line, takes_in, partitions}
use Rattle.replay_run.specs.LineTold.{came_to}
use Rattle.line_told.specs.Happenings.{fate_told}
use Rattle.replay_run.specs.WorldCalls.{event_in_all, line_of_fate}
use Rattle.replay_run.specs.declared.run_end.RunEnd.TheVariants.{InFlight}
use Rattle.replay_run.proofs.Asking.{handed_on}
use Rattle.replay_run.proofs.Bounds.{in_all_few}
use Rattle.replay_run.proofs.EventRuns.{takes_in_kept}
use Rattle.replay_run.proofs.GridLines.{next_number, few_lines}
use Rattle.replay_run.proofs.EventLines.{counted_amid, stands_room, events_line, line_given_up, of_fate}
use Rattle.replay_run.proofs.grid.Grid.run_fate.Goals as goal

pub take_in_all-requires : goal.take_in_all-requires
take_in_all-requires g c =
    let may = c.requires in
    let s = may.stands in
    (may.settings, next_line may.run, counted_amid c.args.self.now may.run c.args.number s may.next, λ p. stands_room c.args.self.now may.run s (few_lines c.args.self.now c.args.number (line_of_fate c.args.fate) may may.run s) p 1 (omega arith))

pub returns-in_err-first-clause-full : goal.returns-in_err-first-clause-full
returns-in_err-first-clause-full g c = λ settings r s was.
    let line = line_of_fate c.args.fate in
    let at_line = next_number c.args.self.now c.args.number line c.requires r s in
    let why = handed_on c.from_residual.result c.in_err-first.field-0.0 InFlight c.from_residual.ensures.1 was in
    line_given_up settings r line (λ skips. takes_in (partition_object settings) skips (next_line r) (event_in_all c.args.fate) (numbers_below partitions)) (of_fate settings r c.args.fate).after
    (c.in_err-first.ensures.full settings (next_line r) (counted_amid c.args.self.now r c.args.number s at_line) (ap Err why))

pub returns-clause-ok : goal.returns-clause-ok
returns-clause-ok g c = λ settings r s.
    let grid = c.args.self.now in
    let number = c.args.number in
    let line = line_of_fate c.args.fate in
    let event = event_in_all c.args.fate in
    let o = partition_object settings in
    let its = of_fate settings r c.args.fate in
    let at_line = next_number grid number line c.requires r s in
    let did = c.in_ok-first.ensures.ok settings (next_line r) (counted_amid grid r number s at_line) in
    let skips = did.on.skips in
    let next = takes_in o skips (next_line r) event (numbers_below partitions) in
    let kept = takes_in_kept o skips (next_line r) event (numbers_below partitions) in
    events_line grid c.take_in_all.new.self r skips next line s (few_lines grid number line c.requires r s) (its.after skips) did.on.own kept (in_all_few o skips r s.few event) (its.prints skips next)
    c.new-messages.result.items c.take_in_all.new.out.items did.on.on
    (came_to c.of_fate.result) c.args.out.now.items c.tell_outcome.new.out.items c.append.new.self.items
    c.new-messages.ensures.items
    (ap came_to c.of_fate.ensures ∙ (λ i. came_to (fate_told (did.outcome i))) ∙ its.tells next)
    c.in_ok-tell_outcome.ensures
    c.in_ok-append.ensures.items
