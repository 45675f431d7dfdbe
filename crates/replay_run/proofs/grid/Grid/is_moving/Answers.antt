use Rattle.std.proofs.Common.{not, arith}
use Rattle.partition_protocol.specs.Service.{is_idle}
use Rattle.replay_run.proofs.Asking.{world_within, told_of}
use Rattle.replay_run.proofs.grid.Grid.is_moving.Goals as goal
use Rattle.call_engine.specs.Env.{settings_of}

pub index-requires : goal.index-requires
index-requires g c =
    let within = world_within c.args.self.now c.requires.stands.1 c.requires.stands.2.holds c.args.partition c.from.result c.requires.placed c.from.ensures in
    omega (arith, within, c.args.self.now.worlds.ok.0)

pub returns : goal.returns
returns g c = λ settings r amid.
    told_of _ c.args.self.now r amid.holds c.args.partition c.from.result c.requires.placed c.from.ensures c.index.result.now c.index.ensures (λ w. not (is_idle w.service.move)) c.moving.result (c.moving.ensures (settings_of _ c.args.self.now.env))
