-- A member's part of a partition: what it knows in the protocol's words, its contents, its answers and its newest effects.
use Rattle.std.specs.Prelude.{◌≡◌, ℕ, List}
use Rattle.partition_protocol.specs.Node.{Node as ProtocolNode}
use Rattle.member_wire.specs.Said.{Contents}
use Rattle.primary_hold.specs.declared.answer.CallAnswer.{CallAnswer}
use Rattle.primary_hold.specs.Facts as facts
use Rattle.replica_node.specs.declared.node.Node.{Node}
use Rattle.replica_node.specs.Sending.{carried}

abbrev pub node_of : {S : Type 0} → Node S → ProtocolNode
node_of node = facts.node_of node.facts

abbrev pub contents_of : {S : Type 0} → Node S → S
contents_of node = node.shelf

-- the answers that were released and not given out, the oldest first
abbrev pub waiting : {S : Type 0} → Node S → List CallAnswer
waiting node = (facts.answers_of node.facts).released

-- and those that wait for the backups
abbrev pub held_answers : {S : Type 0} → Node S → List CallAnswer
held_answers node = (facts.answers_of node.facts).held

-- the newest effects of a primary, the oldest first
abbrev pub ring_of : {S : Type 0} → Node S → List (List ℕ)
ring_of node = facts.ring_of node.facts

-- the numbers of the member and of the table service, by which messages are addressed
pub record Ends : Type 0 where
  pub member : ℕ
  pub service : ℕ

abbrev pub ends_of : {S : Type 0} → Node S → Ends
ends_of node = record { member = facts.member_of node.facts; service = node.service }

abbrev pub member_of : {S : Type 0} → Node S → ℕ
member_of node = (ends_of node).member

abbrev pub service_of : {S : Type 0} → Node S → ℕ
service_of node = (ends_of node).service

-- what the node writes where a message carries contents
abbrev pub carried_by : {S State : Type 0} → (State → List ℕ) → (S → State) → Node S → Contents
carried_by snapshot_of state node = carried snapshot_of (state (contents_of node)) (ring_of node) (node_of node).pair.count

-- Nothing of the node has changed that can be told
pub record IsUnchanged {S State : Type 0} (state : S → State) (old new : Node S) : Type 0 where
  pub node : node_of new ≡ node_of old
  pub contents : state (contents_of new) ≡ state (contents_of old)
  pub waiting : waiting new ≡ waiting old
  pub held : held_answers new ≡ held_answers old
  pub ring : ring_of new ≡ ring_of old
  pub ends : ends_of new ≡ ends_of old
