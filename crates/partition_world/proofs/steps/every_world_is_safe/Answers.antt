-- A world stands for a run, and every run is safe.
use Rattle.partition_protocol.proofs.Theorem.{every_run_is_safe}
use Rattle.partition_world.specs.Worlds.{setup_of}
use Rattle.partition_world.proofs.steps.every_world_is_safe.Goals as goal

pub returns : goal.returns
returns g c plan events stands =
    let setup = setup_of c.args.world.now in
    every_run_is_safe (g.S.Shelf.model.object plan) setup.partition setup.members setup.backups events stands.some stands.once
