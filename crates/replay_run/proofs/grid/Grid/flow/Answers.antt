use Rattle.std.proofs.Common.{Err, ap, arith, refl}
use Rattle.script_lang.specs.declared.line.Line.TheVariants.{Flow}
use Rattle.call_engine.specs.Objects.{partition_object}
use Rattle.replay_run.specs.Runs.{next_line, flowed}
use Rattle.replay_run.specs.LineTold.{came_to}
use Rattle.line_told.specs.declared.told.LineOutcome.TheVariants.{Flowed}
use Rattle.replay_run.specs.declared.run_end.RunEnd.TheVariants.{InFlight}
use Rattle.replay_run.proofs.Asking.{handed_on}
use Rattle.replay_run.proofs.Bounds.{flow_few}
use Rattle.replay_run.proofs.EventRuns.{flowed_kept}
use Rattle.replay_run.proofs.GridLines.{next_number, few_lines}
use Rattle.replay_run.proofs.EventLines.{counted_amid, stands_room, events_line, line_given_up, flow_prints, flow_outcome}
use Rattle.replay_run.proofs.grid.Grid.flow.Goals as goal

pub deliver_first-requires-clause-placed : goal.deliver_first-requires-clause-placed
deliver_first-requires-clause-placed g c = let low = c.requires.read.0 in omega (arith, low)

pub deliver_first-requires-clause-stands : goal.deliver_first-requires-clause-stands
deliver_first-requires-clause-stands g c =
    let may = c.requires in
    let s = may.stands in
    (may.settings, next_line may.run, counted_amid c.args.self.now may.run c.args.number s may.next, stands_room c.args.self.now may.run s (few_lines c.args.self.now c.args.number (Flow c.args.partition c.args.most) may may.run s) c.args.partition c.args.most (let most = may.read.2 in omega (arith, most)))

pub returns-in_err-deliveries-clause-full : goal.returns-in_err-deliveries-clause-full
returns-in_err-deliveries-clause-full g c = λ settings r s was.
    let at_line = next_number c.args.self.now c.args.number (Flow c.args.partition c.args.most) c.requires r s in
    let why = handed_on c.from_residual.result c.in_err-deliveries.field-0.0 InFlight c.from_residual.ensures.1 was in
    line_given_up settings r (Flow c.args.partition c.args.most) (λ skips. flowed (partition_object settings) skips (next_line r) c.args.partition c.args.most) (λ skips. refl)
    (c.in_err-deliveries.ensures.full settings (next_line r) (counted_amid c.args.self.now r c.args.number s at_line) (ap Err why))

pub returns-clause-ok : goal.returns-clause-ok
returns-clause-ok g c = λ settings r s.
    let grid = c.args.self.now in
    let number = c.args.number in
    let p = c.args.partition in
    let most = c.args.most in
    let o = partition_object settings in
    let at_line = next_number grid number (Flow p most) c.requires r s in
    let did = c.in_ok-deliveries.ensures.ok settings (next_line r) (counted_amid grid r number s at_line) in
    let skips = did.on.skips in
    let next = flowed o skips (next_line r) p most in
    let kept = flowed_kept o skips (next_line r) p most in
    events_line grid c.deliver_first.new.self r skips next (Flow p most) s (few_lines grid number (Flow p most) c.requires r s) refl did.on.own kept (flow_few o skips r s.few p most c.requires.read.2) (flow_prints settings r skips next p most)
    c.new-messages.result.items c.deliver_first.new.out.items did.on.on
    (came_to (Flowed c.in_ok-deliveries.deliveries)) c.args.out.now.items c.tell_outcome.new.out.items c.append.new.self.items
    c.new-messages.ensures.items
    (flow_outcome settings r next c.in_ok-deliveries.deliveries did.deliveries)
    c.in_ok-tell_outcome.ensures
    c.in_ok-append.ensures.items
