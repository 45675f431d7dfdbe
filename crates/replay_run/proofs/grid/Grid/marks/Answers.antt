use Rattle.std.proofs.Common.{◌≡◌, ◌∙◌, ◌++◌, ◌∷◌, [], map, ap, sym, arith}
use Rattle.partition_protocol.specs.Service.{numbers_below}
use Rattle.call_engine.specs.Objects.{partition_object}
use Rattle.replay_run.specs.Runs.{partitions}
use Rattle.replay_run.specs.Rebalancing.{is_moving_at}
use Rattle.replay_run.proofs.RebalanceLine.{map_more}
use Rattle.replay_run.proofs.grid.Grid.marks.Goals as goal

pub is_moving-requires-clause-stands : goal.is_moving-requires-clause-stands
is_moving-requires-clause-stands g c = c.requires

pub loop-partition-preserved : goal.loop-partition-preserved
loop-partition-preserved g c = λ settings r amid.
    c.in_ok-push.ensures.items
    ∙ (λ i. c.loop-partition.invariant settings r amid i ++ c.is_moving.ensures settings r amid i ∷ [])
    ∙ sym (map_more (is_moving_at (partition_object settings) r) c.loop-partition.partition)

pub returns : goal.returns
returns g c = λ settings r amid.
    let all : c.loop-partition.partition ≡ partitions = omega (arith, c.loop-partition-test.false, c.loop-partition.auto.partition-end) in
    c.loop-partition.invariant settings r amid ∙ ap (λ n. map (is_moving_at (partition_object settings) r) (numbers_below n)) all
