use Rattle.std.proofs.Common.{refl}
use Rattle.live_grid.proofs.PassPlaces.{came_at, still_of_grid, still_control}
use Rattle.live_grid.proofs.grid.LiveGrid.run_in.Goals as goal

pub returns-clause-came : goal.returns-clause-came
returns-clause-came g c =
    came_at c.args.self.now c.args.event c.args.pass.now (record { passes = c.put_pass.new.passes; tokens = c.args.pass.now.tokens }) c.args.partition c.from-slot.result c.take_pass-going.result c.run_event-back.result.0 c.run_event-back.result.1
    c.workplace.result.now c.take_pass-going.new.passes.items c.requires.pass c.requires.placed c.from-slot.ensures c.workplace.ensures c.take_pass-going.ensures.taken c.take_pass-going.ensures.left c.put_pass.ensures refl c.run_event-back.ensures

pub returns-clause-kept : goal.returns-clause-kept
returns-clause-kept g c =
    still_of_grid c.args.self.now c.args.event c.args.pass.now (record { passes = c.put_pass.new.passes; tokens = c.args.pass.now.tokens }) c.args.partition c.run_event-back.result.1 (returns-clause-came g c) c.requires.pass

pub returns-clause-control : goal.returns-clause-control
returns-clause-control g c = λ control.
    still_control c.args.self.now c.args.event c.args.pass.now (record { passes = c.put_pass.new.passes; tokens = c.args.pass.now.tokens }) c.args.partition c.run_event-back.result.1 (returns-clause-came g c) control
