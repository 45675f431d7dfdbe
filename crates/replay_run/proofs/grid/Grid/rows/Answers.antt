use Rattle.std.proofs.Common.{◌≡◌, ◌∙◌, ◌++◌, ◌∷◌, [], map, ap, sym, arith}
use Rattle.partition_protocol.specs.Service.{numbers_below}
use Rattle.call_engine.specs.Objects.{partition_object}
use Rattle.call_engine.specs.Env.{settings_of}
use Rattle.replay_run.specs.Runs.{partitions}
use Rattle.replay_run.specs.Rebalancing.{service_at}
use Rattle.replay_run.proofs.Asking.{world_within, told_of}
use Rattle.replay_run.proofs.RebalanceLine.{map_more}
use Rattle.replay_run.proofs.grid.Grid.rows.Goals as goal

pub index-requires : goal.index-requires
index-requires g c =
    let within = world_within c.args.self.now c.requires.1 c.requires.2.holds c.loop-partition.partition c.from-in-loop-partition.result (omega (arith, c.loop-partition-test.true)) c.from-in-loop-partition.ensures in
    omega (arith, within, c.args.self.now.worlds.ok.0)

pub loop-partition-preserved : goal.loop-partition-preserved
loop-partition-preserved g c = λ settings r amid.
    let p = c.loop-partition.partition in
    let row = told_of _ c.args.self.now r amid.holds p c.from-in-loop-partition.result (omega (arith, c.loop-partition-test.true)) c.from-in-loop-partition.ensures c.index.result.now c.index.ensures (λ w. w.service.row) c.row.result.now (c.row.ensures (settings_of _ c.args.self.now.env)) in
    c.in_ok-push.ensures.items
    ∙ (λ i. c.loop-partition.invariant settings r amid i ++ (c.in_ok-copied.ensures ∙ row) i ∷ [])
    ∙ sym (map_more (λ q. (service_at (partition_object settings) r q).row) p)

pub returns : goal.returns
returns g c = λ settings r amid.
    let all : c.loop-partition.partition ≡ partitions = omega (arith, c.loop-partition-test.false, c.loop-partition.auto.partition-end) in
    c.loop-partition.invariant settings r amid ∙ ap (λ n. map (λ q. (service_at (partition_object settings) r q).row) (numbers_below n)) all
