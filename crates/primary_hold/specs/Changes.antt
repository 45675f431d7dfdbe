-- How what a member knows changes by itself.
use Rattle.std.specs.Prelude.{◌≡◌, ℕ, ◌+◌, List, [], ◌∷◌, ◌++◌, Option, is_some}
use Rattle.grid_base.specs.declared.names.CallId.{CallId}
use Rattle.grid_base.specs.declared.calls.Change.{Change}
use Rattle.grid_base.specs.declared.calls.Executed.{Executed}
use Rattle.partition_protocol.specs.Node.{Node}
use Rattle.partition_protocol.specs.Execution.{executing}
use Rattle.primary_hold.specs.declared.answer.CallAnswer.{CallAnswer}
use Rattle.primary_hold.specs.declared.facts.Facts.{Facts}
use Rattle.primary_hold.specs.Answering.{all_of}
use Rattle.primary_hold.specs.Facts.{node_of, member_of, answers_of, ring_of}
use Rattle.primary_hold.specs.Rings.{ring_after}

-- It knows this now. All its answers and its newest effects are there still, and it is the same member.
pub record Becomes (old new : Facts) (next : Node) : Type 0 where
  pub node : node_of new ≡ next
  pub answers : all_of (answers_of new) ≡ all_of (answers_of old)
  pub ring : ring_of new ≡ ring_of old
  pub member : member_of new ≡ member_of old

-- the answer of a call that a node has just executed
abbrev pub answer_at : Node → CallId → List ℕ → Option Change → CallAnswer
answer_at node id reply change = record { id = id; version = node.pair.version; seen = node.pair.count; reply = reply; change = change }

-- the node after a call, before any release
abbrev pub after_call : CallId → Executed → Node → Node
after_call id executed node = executing (is_some executed.effect) id.conn id.number node

-- A call was executed: its answer is held behind the others, and its effect is the newest.
pub record HasCounted (old new : Facts) (id : CallId) (executed : Executed) : Type 0 where
  pub node : node_of new ≡ after_call id executed (node_of old)
  pub answers : all_of (answers_of new) ≡ all_of (answers_of old) ++ answer_at (node_of new) id executed.reply executed.change ∷ []
  pub ring : ring_of new ≡ ring_after executed.effect (ring_of old)
  pub member : member_of new ≡ member_of old

-- the node has one effect more
abbrev pub with_effect : Node → Node
with_effect node = record node { pair = record { version = node.pair.version; count = node.pair.count + 1 }; recent = node.recent + 1 }
