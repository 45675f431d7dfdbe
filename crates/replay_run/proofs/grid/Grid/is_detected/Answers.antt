use Rattle.std.proofs.Common.{◌≡◌, ◌∙◌, ap, sym, arith}
use Rattle.std.specs.List.{list_all}
use Rattle.partition_table.specs.Rows.{is_among}
use Rattle.partition_protocol.specs.Service.{numbers_below}
use Rattle.call_engine.specs.Objects.{partition_object}
use Rattle.call_engine.specs.Env.{settings_of}
use Rattle.replay_run.specs.Runs.{partitions}
use Rattle.replay_run.specs.Rebalancing.{service_at}
use Rattle.replay_run.proofs.Asking.{world_within, told_of}
use Rattle.replay_run.proofs.RebalanceLine.{all_more, not_all}
use Rattle.replay_run.proofs.grid.Grid.is_detected.Goals as goal

pub index-requires : goal.index-requires
index-requires g c =
    let within = world_within c.args.self.now c.requires.1 c.requires.2.holds c.loop-partition.partition c.from.result (omega (arith, c.loop-partition-test.true)) c.from.ensures in
    omega (arith, within, c.args.self.now.worlds.ok.0)

pub returns-then-not-is_detected : goal.returns-then-not-is_detected
returns-then-not-is_detected g c = λ settings r amid.
    let p = c.loop-partition.partition in
    let told = told_of _ c.args.self.now r amid.holds p c.from.result (omega (arith, c.loop-partition-test.true)) c.from.ensures c.index.result.now c.index.ensures (λ w. is_among w.service.detected c.args.member) _ (c.if-not-is_detected.ensures (settings_of _ c.args.self.now.env)) in
    sym (not_all (λ q. is_among (service_at (partition_object settings) r q).detected c.args.member) p partitions (omega (arith, c.loop-partition-test.true)) (sym told))

pub loop-partition-preserved : goal.loop-partition-preserved
loop-partition-preserved g c = λ settings r amid.
    let p = c.loop-partition.partition in
    let told = told_of _ c.args.self.now r amid.holds p c.from.result (omega (arith, c.loop-partition-test.true)) c.from.ensures c.index.result.now c.index.ensures (λ w. is_among w.service.detected c.args.member) _ (c.if-not-is_detected.ensures (settings_of _ c.args.self.now.env)) in
    all_more (λ q. is_among (service_at (partition_object settings) r q).detected c.args.member) p (c.loop-partition.invariant settings r amid) (sym told)

pub returns : goal.returns
returns g c = λ settings r amid.
    let all : c.loop-partition.partition ≡ partitions = omega (arith, c.loop-partition-test.false, c.loop-partition.auto.partition-end) in
    sym (ap (λ n. list_all (λ q. is_among (service_at (partition_object settings) r q).detected c.args.member) (numbers_below n)) (sym all) ∙ c.loop-partition.invariant settings r amid)
