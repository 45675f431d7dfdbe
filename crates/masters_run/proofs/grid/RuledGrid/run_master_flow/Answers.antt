use Rattle.std.proofs.Common.{Err, ap, arith}
use Rattle.script_lang.specs.declared.line.Line.TheVariants.{MasterFlow}
use Rattle.replay_run.specs.declared.run_end.RunEnd.TheVariants.{InFlight}
use Rattle.replay_run.proofs.Asking.{handed_on}
use Rattle.masters_run.specs.Runs.{counted}
use Rattle.masters_run.proofs.FlowParts.{may_flow, between_ran, between_up}
use Rattle.masters_run.proofs.LineParts.{few_lines, counted_amid}
use Rattle.masters_run.proofs.grid.RuledGrid.run_master_flow.Goals as goal

pub deliver_to_masters-requires-clause-may : goal.deliver_to_masters-requires-clause-may
deliver_to_masters-requires-clause-may g c =
    let all = c.args.self.now in
    let line = MasterFlow c.args.partition c.args.most in
    let may = c.requires.may in
    let placed = may.read.0 in
    may_flow all may.run may.stands (few_lines all c.args.number line may may.run may.stands) (c.requires.ruled may.settings may.run may.stands) c.count.new.self
    (counted_amid all may.run may.stands c.count.new.self c.count.ensures.masters (c.count.ensures.amid may.settings may.run.run may.stands.grid)) c.args.partition (omega (arith, placed)) c.args.most may.read.2

pub returns-in_err-deliveries-clause-full : goal.returns-in_err-deliveries-clause-full
returns-in_err-deliveries-clause-full g c = λ settings s stands was.
    let all = c.args.self.now in
    let amid = counted_amid all s stands c.count.new.self c.count.ensures.masters (c.count.ensures.amid settings s.run stands.grid) in
    let why = handed_on c.from_residual.result c.in_err-deliveries.field-0.0 InFlight c.from_residual.ensures.1 was in
    between_up all s stands (c.requires.ruled settings s stands) c.args.partition c.args.most (c.in_err-deliveries.ensures.full settings (counted s) amid (ap Err why))

pub returns-clause-ok : goal.returns-clause-ok
returns-clause-ok g c = λ settings s stands.
    let all = c.args.self.now in
    let line = MasterFlow c.args.partition c.args.most in
    let may = c.requires.may in
    let mid = c.count.new.self in
    let amid = counted_amid all s stands mid c.count.ensures.masters (c.count.ensures.amid settings s.run stands.grid) in
    between_ran all s stands (c.requires.ruled settings s stands) mid amid (few_lines all c.args.number line may s stands) c.args.partition c.args.most may.read.2 c.deliver_to_masters.new.self c.in_ok-deliveries.deliveries
    c.new-messages.result.items c.deliver_to_masters.new.out.items (c.in_ok-deliveries.ensures.ok settings (counted s) amid)
    c.args.out.now.items c.tell_with.new.out.items c.new-messages.ensures.items c.in_ok-tell_with.ensures
