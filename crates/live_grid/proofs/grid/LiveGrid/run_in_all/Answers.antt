use Rattle.std.proofs.Common.{Ok, Err, subst}
use Rattle.live_grid.specs.Control.{CameToAt}
use Rattle.live_grid.specs.Fates.{event_in_all}
use Rattle.live_grid.proofs.Trying.{ran_in_one_more, refused_in_one}
use Rattle.live_grid.proofs.grid.LiveGrid.run_in_all.Goals as goal

pub returns-in-Err-clause-came : goal.returns-in-Err-clause-came
returns-in-Err-clause-came g c =
    let event = event_in_all c.args.fate in
    let at = subst (λ e. CameToAt c.args.self.now e c.loop-partition.pass c.run_in.new.pass c.loop-partition.partition (Err c.in-Err.why)) c.event.ensures c.in-Err.ensures.came in
    refused_in_one c.args.self.now event c.args.pass.now c.loop-partition.pass c.run_in.new.pass c.loop-partition.partition c.loop-partition.all c.loop-partition.invariant c.in-Err.why c.loop-partition-test.true at

pub loop-partition-preserved : goal.loop-partition-preserved
loop-partition-preserved g c =
    let event = event_in_all c.args.fate in
    let at = subst (λ e. CameToAt c.args.self.now e c.loop-partition.pass c.run_in.new.pass c.loop-partition.partition (Ok c.in-Ok.one)) c.event.ensures c.in-Ok.ensures.came in
    ran_in_one_more c.args.self.now event c.args.pass.now c.loop-partition.pass c.run_in.new.pass c.loop-partition.partition c.loop-partition.all c.loop-partition.invariant c.in-Ok.one c.joined-all.result
    at c.joined-all.ensures c.in-Ok.ensures.kept (c.in-Ok.ensures.control c.loop-partition.invariant.control)
