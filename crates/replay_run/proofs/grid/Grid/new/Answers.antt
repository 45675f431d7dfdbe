use Rattle.std.proofs.Common.{◌≤◌, ◌+◌, ◌∙◌, List, length, replicate, refl, ap, arith}
use Rattle.std.proofs.lemmas.List.{length_push}
use Rattle.call_engine.specs.declared.env.GridEnv.{GridEnv}
use Rattle.replay_run.specs.Runs.{begun}
use Rattle.replay_run.specs.Grids.{GridWorld, IsWorld}
use Rattle.replay_run.proofs.WaiterLists.{begun_waiters}
use Rattle.replay_run.proofs.Beginning.{more_worlds, worlds_as, last_world, begun_stands}
use Rattle.replay_run.proofs.grid.Grid.new.Goals as goal
use Rattle.call_engine.specs.Env.{settings_of}

pub loop-partition-preserved : goal.loop-partition-preserved
loop-partition-preserved g c =
    let ws = c.loop-partition.worlds.items in
    let world = c.in_ok-new.field-0 in
    record {
      size = ap (λ (xs : List GridWorld). length xs) c.in_ok-push.ensures.items ∙ length_push ws world ∙ ap (λ n. n + 1) c.loop-partition.invariant.size;
      worlds = λ env p below.
          let is : IsWorld _ world (begun c.args.members c.args.backups) c.loop-partition.partition = record { stands = c.in_ok-new.ensures.stands (settings_of _ env); setup = c.in_ok-new.ensures.setup } in
          let last = last_world ws (begun c.args.members c.args.backups) c.loop-partition.partition world c.loop-partition.invariant.size is c.in_ok-new.ensures.waiting in
          worlds_as c.in_ok-push.ensures.items
          (more_worlds ws (begun c.args.members c.args.backups) c.loop-partition.partition world c.loop-partition.invariant.size (c.loop-partition.invariant.worlds env) last p below);
    }

pub returns : goal.returns
returns g c =
    let some : 1 ≤ c.args.members = c.requires.some in
    let env : GridEnv _ _ = record { registry = c.args.processors.items; capacity = c.args.capacity } in
    begun_stands _ env c.args.members c.args.backups some (ap (λ list. record { registry = list; capacity = c.args.capacity }) c.new-2.ensures) refl refl c.in_ok-links_of.ensures (c.in_ok-vec.ensures.items_if_clones_equal (λ y e. e) ∙ ap (λ n. replicate n 0) c.from-2.ensures) c.in_ok-new-2.ensures (begun_waiters _ c.args.members c.args.backups c.in_ok-new-3.ensures) c.new-4.ensures (c.in_ok-nobody.ensures c.args.backups) c.new-5.ensures.items
    (λ p below. c.loop-partition.invariant.worlds env p (omega arith))
