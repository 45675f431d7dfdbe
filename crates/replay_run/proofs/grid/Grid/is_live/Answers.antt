use Rattle.std.proofs.Common.{◌<◌, refl, arith}
use Rattle.partition_protocol.specs.World.{is_live}
use Rattle.replay_run.specs.Runs.{partitions}
use Rattle.replay_run.proofs.Asking.{world_within, told_of}
use Rattle.replay_run.proofs.grid.Grid.is_live.Goals as goal
use Rattle.call_engine.specs.Env.{settings_of}

pub index-requires : goal.index-requires
index-requires g c =
    let first : 0 < partitions = omega arith in
    let within = world_within c.args.self.now c.requires.1 c.requires.2.holds 0 0 first refl in
    omega (arith, within, c.args.self.now.worlds.ok.0)

pub returns : goal.returns
returns g c = λ settings r s.
    let first : 0 < partitions = omega arith in
    told_of _ c.args.self.now r s.holds 0 0 first refl c.index.result.now c.index.ensures (λ w. is_live w c.args.member) c.is_live.result (c.is_live.ensures (settings_of _ c.args.self.now.env))
