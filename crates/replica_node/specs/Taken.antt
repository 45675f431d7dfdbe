-- A member has taken a step.
use Rattle.std.specs.Prelude.{◌≡◌, ℕ, false, true, List, [], ◌++◌, map, Option, Some, None, All}
use Rattle.partition_table.specs.Rows.{is_primary}
use Rattle.partition_protocol.specs.Node.{settled}
use Rattle.partition_protocol.specs.Replica.{Step, sent_again}
use Rattle.member_wire.specs.Said.{took_of, written}
use Rattle.replica_node.specs.declared.node.Node.{Node}
use Rattle.replica_node.specs.declared.taking.Taken.{Taken}
use Rattle.replica_node.specs.Nodes.{node_of, contents_of, waiting, held_answers, ring_of, ends_of, member_of, service_of, carried_by}
use Rattle.replica_node.specs.Sending.{Fits, Sends}
use Rattle.replica_node.specs.Takings.{answers_left}

-- It has taken the step, and has released what it could. Its newest effects are these, and its contents changed so
pub record HasTaken {S State : Type 0} (snapshot_of : State → List ℕ) (state : S → State) (step : Step) (effects : List (List ℕ)) (leaves : State → State → Type 0)
    (old new : Node S) (taken : Taken) : Type 0 where
  pub node : node_of new ≡ settled step.node
  pub took : took_of taken.took ≡ step.took
  pub sent : taken.sent ≡ map (written (carried_by snapshot_of state new)) step.sent
  pub fits : All (Fits (carried_by snapshot_of state new)) step.sent
  pub contents : leaves (state (contents_of old)) (state (contents_of new))
  pub answers : waiting new ++ held_answers new ≡ answers_left (is_primary (node_of new).known (member_of new)) (waiting old) (held_answers old)
  pub ring : ring_of new ≡ effects
  pub ends : ends_of new ≡ ends_of old

-- A primary alone sends anything again
abbrev pub HasSentAgain : {S State : Type 0} → (State → List ℕ) → (S → State) → Node S → Option (List (ℕ × List ℕ)) → Type 0
HasSentAgain snapshot_of state node None = is_primary (node_of node).known (member_of node) ≡ false
HasSentAgain snapshot_of state node (Some out) =
    (is_primary (node_of node).known (member_of node) ≡ true) × Sends (carried_by snapshot_of state node) (sent_again (service_of node) (node_of node)) [] out
