use Rattle.std.proofs.Common.{◌≡◌, ◌+◌, ◌<◌, ◌^◌, ◌∙◌, length, get_or, ap, sym, subst, arith}
use Rattle.std.specs.List.{sum_by}
use Rattle.partition_protocol.specs.Service.{numbers_below}
use Rattle.partition_protocol.specs.World.{trail}
use Rattle.call_engine.specs.Objects.{partition_object}
use Rattle.call_engine.specs.Env.{settings_of}
use Rattle.replay_run.specs.Runs.{partitions}
use Rattle.replay_run.proofs.Asking.{world_within, told_of}
use Rattle.replay_run.proofs.EntryCounts.{entries_at, sum_by_one_more, below_both, below_first}
use Rattle.replay_run.proofs.grid.Grid.entries.Goals as goal
use Rattle.replay_run.proofs.grid.Grid.entries.Goals.{in-Some, in_default}

pub loop-partition-preserved : goal.loop-partition-preserved
loop-partition-preserved g c =
    let grid = c.args.self.now in
    let p = c.loop-partition.partition in
    let low : p < partitions = omega (arith, c.loop-partition-test.true) in
    elim c.match-get.branch [
      | in-Some w ↦ λ settings r s small.
          let f = entries_at (partition_object settings) r in
          let told : w.trail_len.result ≡ entries_at (partition_object settings) r p = told_of _ grid r s.holds p c.from.result low c.from.ensures w.in-Some.world.now (w.in-Some.ensures.lookup.1 ∙ ap (λ ws. get_or ws c.from.result w.in-Some.world.now) c.deref.ensures.value) (λ x. length (trail x)) w.trail_len.result (w.trail_len.ensures (settings_of _ grid.env)) in
          let more = sum_by_one_more (entries_at (partition_object settings) r) p in
          let so_far = c.loop-partition.invariant settings r s (below_first (sum_by (entries_at (partition_object settings) r) (numbers_below p)) (entries_at (partition_object settings) r p) _ more small) in
          w.entries-is ∙ w.plus-entries.ensures (below_both c.loop-partition.entries w.trail_len.result (sum_by (entries_at (partition_object settings) r) (numbers_below p)) (entries_at (partition_object settings) r p) _ so_far told more small)
          ∙ (λ i. so_far i + told i) ∙ sym more
      | in_default w ↦ λ settings r s small.
          let within = world_within grid r s.holds p c.from.result low c.from.ensures in
          let past = w.in_default.ensures.lookup.3 in
          let same = ap (λ ws. length ws) c.deref.ensures.value in
          absurd (omega (arith, within, past, same))
    ]

pub returns : goal.returns
returns g c =
    let all : c.loop-partition.partition ≡ partitions = omega (arith, c.loop-partition-test.false, c.loop-partition.auto.partition-end) in
    λ settings r s small.
    c.loop-partition.invariant settings r s (subst (λ n. sum_by (entries_at (partition_object settings) r) (numbers_below n) < 2 ^ 128) (sym all) small) ∙ ap (λ n. sum_by (entries_at (partition_object settings) r) (numbers_below n)) all
