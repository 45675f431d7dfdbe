-- One member more has its node.
use Rattle.std.proofs.Common.{◌≡◌, ℕ, [], arith}
use Rattle.partition_protocol.specs.Node.{opening_node}
use Rattle.replica_node.specs.declared.node.Node.{Node}
use Rattle.replica_node.specs.Nodes.{node_of, contents_of, waiting, held_answers, ring_of, ends_of, Ends}
use Rattle.partition_world.proofs.Starts.{all_more, map_more}
use Rattle.partition_world.proofs.world.opening_nodes.Goals as goal

pub loop-member-preserved : goal.loop-member-preserved
loop-member-preserved g c =
    let S = g.S.Shelf in
    let before = c.loop-member.nodes.items in
    let after = c.push.new.self.items in
    let k = c.loop-member.member in
    let node = c.in_ok-new.field-0 in
    let was = c.loop-member.invariant in
    let gains = c.in_ok-push.ensures.items in
    let begins = c.in_ok-new.ensures in
    let ends : ℕ → Ends = λ m. record { member = m; service = c.args.members } in
    record {
      len = omega (arith, c.in_ok-push.ensures.len, was.len);
      nodes = map_more node_of (opening_node c.args.row.now) before after node k gains was.nodes (begins.node c.requires);
      empty = all_more (λ (node : Node _). S.model.state (contents_of node) ≡ S.model.empty_state) before after node gains was.empty begins.contents;
      waiting = all_more (λ (node : Node _). waiting node ≡ []) before after node gains was.waiting begins.waiting;
      held = all_more (λ (node : Node _). held_answers node ≡ []) before after node gains was.held begins.held;
      ring = all_more (λ (node : Node _). ring_of node ≡ []) before after node gains was.ring begins.ring;
      ends = map_more ends_of ends before after node k gains was.ends begins.ends;
    }
