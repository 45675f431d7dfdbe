use Rattle.std.proofs.Common.{◌≡◌, ℕ, ◌+◌, ◌<◌, ◌∙◌, cond, true, false, length, get_or, ap, sym, arith, add-zero}
use Rattle.std.specs.Prelude.{count_by}
use Rattle.partition_table.specs.declared.Row.{Row}
use Rattle.partition_protocol.specs.Service.{numbers_below}
use Rattle.call_engine.specs.Objects.{partition_object}
use Rattle.call_engine.specs.Env.{settings_of}
use Rattle.replay_run.specs.Runs.{partitions}
use Rattle.replay_run.specs.Counts.{is_lost_at}
use Rattle.replay_run.proofs.Asking.{world_within, told_of}
use Rattle.replay_run.proofs.EntryCounts.{count_more}
use Rattle.replay_run.proofs.grid.Grid.lost.Goals as goal
use Rattle.replay_run.proofs.grid.Grid.lost.Goals.{in-Some+then-row, in-Some+else-row, in_default}

pub loop-partition-preserved : goal.loop-partition-preserved
loop-partition-preserved g c =
    let grid = c.args.self.now in
    let p = c.loop-partition.partition in
    let low : p < partitions = omega (arith, c.loop-partition-test.true) in
    let kept = c.loop-partition.invariant in
    elim c.match-get.branch [
      | in-Some+then-row w ↦ record {
        counted = λ settings r s.
            let row = told_of _ grid r s.holds p c.from.result low c.from.ensures w.in-Some.world.now (w.in-Some.ensures.lookup.1 ∙ ap (λ ws. get_or ws c.from.result w.in-Some.world.now) c.deref.ensures.value) (λ x. x.service.row) w.row.result.now (w.row.ensures (settings_of _ grid.env)) in
            let lost : is_lost_at (partition_object settings) r p ≡ true = ap (λ (x : Row). x.lost) (sym row) ∙ w.if-row.true in
            w.lost-is ∙ ap (λ n. n + 1) (kept.counted settings r s)
            ∙ sym (count_more (is_lost_at (partition_object settings) r) p ∙ ap {B = ℕ} (λ b. count_by (is_lost_at (partition_object settings) r) (numbers_below p) + cond b 1 0) lost);
        few = omega (arith, kept.few, w.lost-is);
      }
      | in-Some+else-row w ↦ record {
        counted = λ settings r s.
            let row = told_of _ grid r s.holds p c.from.result low c.from.ensures w.in-Some.world.now (w.in-Some.ensures.lookup.1 ∙ ap (λ ws. get_or ws c.from.result w.in-Some.world.now) c.deref.ensures.value) (λ x. x.service.row) w.row.result.now (w.row.ensures (settings_of _ grid.env)) in
            let lost : is_lost_at (partition_object settings) r p ≡ false = ap (λ (x : Row). x.lost) (sym row) ∙ w.if-row.false in
            w.lost-is ∙ kept.counted settings r s ∙ sym (add-zero (count_by (is_lost_at (partition_object settings) r) (numbers_below p)))
            ∙ sym (count_more (is_lost_at (partition_object settings) r) p ∙ ap {B = ℕ} (λ b. count_by (is_lost_at (partition_object settings) r) (numbers_below p) + cond b 1 0) lost);
        few = omega (arith, kept.few, w.lost-is);
      }
      | in_default w ↦ record {
        counted = λ settings r s.
            let within = world_within grid r s.holds p c.from.result low c.from.ensures in
            let past = w.in_default.ensures.lookup.3 in
            let same = ap (λ ws. length ws) c.deref.ensures.value in
            absurd (omega (arith, within, past, same));
        few = omega (arith, kept.few, w.lost-is);
      }
    ]

pub returns : goal.returns
returns g c =
    let all : c.loop-partition.partition ≡ partitions = omega (arith, c.loop-partition-test.false, c.loop-partition.auto.partition-end) in
    λ settings r s.
    c.loop-partition.invariant.counted settings r s ∙ ap (λ n. count_by (is_lost_at (partition_object settings) r) (numbers_below n)) all
