use Rattle.std.proofs.Common.{◌≡◌, ℕ, [], map, vec_len, All}
use Rattle.partition_protocol.specs.Node.{opening_node}
use Rattle.partition_protocol.specs.Service.{numbers_below}
use Rattle.replica_node.specs.declared.node.Node.{Node}
use Rattle.replica_node.specs.Nodes.{node_of, contents_of, waiting, held_answers, ring_of, ends_of, Ends}
use Rattle.partition_world.proofs.world.opening_nodes.Given as goal

-- the members so far have their nodes
abbrev pub invariant-loop-member : goal.invariant-loop-member
invariant-loop-member g l = record {
  len : vec_len l.nodes ≡ l.member;
  nodes : map node_of l.nodes.items ≡ map (opening_node l.row) (numbers_below l.member);
  empty : All (λ (node : Node _). g.S.Shelf.model.state (contents_of node) ≡ g.S.Shelf.model.empty_state) l.nodes.items;
  waiting : All (λ (node : Node _). waiting node ≡ []) l.nodes.items;
  held : All (λ (node : Node _). held_answers node ≡ []) l.nodes.items;
  ring : All (λ (node : Node _). ring_of node ≡ []) l.nodes.items;
  ends : map ends_of l.nodes.items ≡ map (λ (m : ℕ). let e : Ends = record { member = m; service = l.members } in e) (numbers_below l.member);
}
