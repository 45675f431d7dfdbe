use Rattle.replay_run.specs.Runs.{partitions}
use Rattle.std.proofs.Common.{◌≡◌, ◌∙◌, ◌++◌, ap, arith}
use Rattle.call_engine.specs.Objects.{partition_object}
use Rattle.replay_run.proofs.HistoryTexts.{texts_below, texts_more}
use Rattle.replay_run.proofs.grid.Grid.push_histories.Goals as goal

pub loop-partition-preserved : goal.loop-partition-preserved
loop-partition-preserved g c = λ settings r s. texts_more (partition_object settings) r c.loop-partition.partition c.args.out.now.items c.loop-partition.out.items c.push_history.new.out.items (c.loop-partition.invariant settings r s) (c.in_ok-push_history.ensures settings r s)

pub returns : goal.returns
returns g c = λ settings r s.
    let all : c.loop-partition.partition ≡ partitions = omega arith in
    c.loop-partition.invariant settings r s ∙ ap (λ n. c.args.out.now.items ++ texts_below (partition_object settings) r n) all
