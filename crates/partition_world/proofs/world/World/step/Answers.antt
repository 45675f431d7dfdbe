-- One event more was run.
use Rattle.grid_base.specs.Shelves.{meaning}
use Rattle.partition_world.specs.Events.{event_of}
use Rattle.partition_world.proofs.Stands.{stands_next}
use Rattle.partition_world.proofs.world.World.step.Goals as goal

pub returns-clause-stands : goal.returns-clause-stands
returns-clause-stands g c events comes =
    let S = g.S.Shelf in
    stands_next (meaning S.model (g.S.Executes.plan_of c.args.env.now)) g.R.Records.records S.model.within_limits c.args.self.now c.happen.new.self events (event_of c.args.event) comes c.in_ok-happened.ensures.keeps c.in_ok-happened.happened
    (c.in_ok-happened.ensures.ok events comes)
