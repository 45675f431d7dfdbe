use Rattle.std.proofs.Common.{◌≡◌, ◌<◌, ◌∙◌, ◌++◌, ◌∷◌, [], Some, slice_get, ap, sym, arith}
use Rattle.std.specs.List.{filter_map}
use Rattle.std.specs.Option.{option_map}
use Rattle.call_engine.specs.Objects.{partition_object}
use Rattle.call_engine.specs.Env.{settings_of}
use Rattle.partition_table.specs.declared.Row.{Row}
use Rattle.partition_protocol.specs.Node.{Node}
use Rattle.partition_protocol.specs.Service.{numbers_below}
use Rattle.partition_world.specs.Worlds.{node_count}
use Rattle.replay_run.specs.Runs.{known_at, partitions}
use Rattle.replay_run.proofs.Asking.{world_within, world_is, nodes_of, told_of}
use Rattle.replay_run.proofs.GivingOut.{its_node}
use Rattle.replay_run.proofs.RegisteringLine.{known_more}
use Rattle.replay_run.proofs.grid.Grid.rows_known.Goals as goal

pub index-requires : goal.index-requires
index-requires g c =
    let within = world_within c.args.self.now c.requires.holds.1 c.requires.holds.2 c.loop-partition.partition c.from-in-loop-partition.result (omega (arith, c.loop-partition-test.true)) c.from-in-loop-partition.ensures in
    omega (arith, within, c.args.self.now.worlds.ok.0)

pub known-row-requires : goal.known-row-requires
known-row-requires g c =
    let h = c.requires.holds.2 in
    let nodes = nodes_of c.requires.holds.0 _ c.requires.holds.1 c.loop-partition.partition
    (world_is c.args.self.now c.requires.holds.1 h c.loop-partition.partition c.from-in-loop-partition.result (omega (arith, c.loop-partition-test.true)) c.from-in-loop-partition.ensures c.index.result.now c.index.ensures) in
    omega (arith, nodes, h.members, c.requires.member)

pub loop-partition-preserved : goal.loop-partition-preserved
loop-partition-preserved g c = λ settings r h.
    let grid = c.args.self.now in
    let p = c.loop-partition.partition in
    let member = c.args.member in
    let row = c.known-row.result.now in
    let world = c.index.result.now in
    let nodes = nodes_of settings _ r p (world_is grid r h p c.from-in-loop-partition.result (omega (arith, c.loop-partition-test.true)) c.from-in-loop-partition.ensures world c.index.ensures) in
    let within : member < node_count world = omega (arith, nodes, h.members, c.requires.member) in
    let known : Some (p, row) ≡ known_at (partition_object settings) r member p =
    told_of _ grid r h p c.from-in-loop-partition.result (omega (arith, c.loop-partition-test.true)) c.from-in-loop-partition.ensures world c.index.ensures
    (λ w. option_map (λ (node : Node). (p, node.known)) (slice_get w.nodes member)) (Some (p, row))
    (λ events stands. let node = its_node world events member stands within in
    ap (λ (x : Row). Some (p, x)) (c.known-row.ensures (settings_of _ grid.env) events stands node.0 node.1) ∙ sym (ap (option_map (λ (n : Node). (p, n.known))) node.1)) in
    c.in_ok-push.ensures.items
    ∙ (λ i. c.loop-partition.invariant settings r h i ++ (p, c.in_ok-copied.ensures i) ∷ [])
    ∙ sym (known_more (known_at (partition_object settings) r member) p (p, row) (sym known))

pub returns : goal.returns
returns g c = λ settings r h.
    let all : c.loop-partition.partition ≡ partitions = omega (arith, c.loop-partition-test.false, c.loop-partition.auto.partition-end) in
    c.loop-partition.invariant settings r h ∙ ap (λ n. filter_map (known_at (partition_object settings) r c.args.member) (numbers_below n)) all
