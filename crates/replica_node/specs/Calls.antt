-- What becomes of a call at a member.
use Rattle.std.specs.Prelude.{◌≡◌, ℕ, true, not, List, [], ◌∷◌, ◌++◌, map, Option, Some, None, All}
use Rattle.grid_base.specs.Shelves.{ShelfModel}
use Rattle.grid_base.specs.declared.names.CallId.{CallId}
use Rattle.grid_base.specs.declared.refusal.PartitionRefused.{PartitionRefused}
use Rattle.grid_base.specs.declared.refusal.PartitionRefused.TheVariants.{PartitionLost, WrongTarget, Migrating}
use Rattle.partition_table.specs.Rows.{is_empty}
use Rattle.partition_protocol.specs.Node.{settled}
use Rattle.partition_protocol.specs.Execution.{Reached, Executes, PartitionLost as IsLost, WrongTarget as IsElsewhere, Migrating as IsFrozen, executing, reached, sent_on_executing}
use Rattle.member_wire.specs.Said.{Contents, written}
use Rattle.primary_hold.specs.Changes.{answer_at}
use Rattle.primary_hold.specs.Rings.{ring_after}
use Rattle.replica_node.specs.declared.calls.Called.{Called}
use Rattle.replica_node.specs.declared.calls.Called.TheVariants.{Executed, Refused}
use Rattle.replica_node.specs.declared.calls.Execution.{Execution}
use Rattle.replica_node.specs.declared.node.Node.{Node}
use Rattle.replica_node.specs.Nodes.{node_of, contents_of, waiting, held_answers, ring_of, ends_of, member_of, IsUnchanged}
use Rattle.replica_node.specs.Sending.{Fits}

-- what became of the call, in the protocol's words
abbrev pub refused_as : PartitionRefused → Reached
refused_as (PartitionLost version) = IsLost version
refused_as (WrongTarget version) = IsElsewhere version
refused_as (Migrating version) = IsFrozen version

abbrev pub reached_as : Option PartitionRefused → Reached
reached_as None = Executes
reached_as (Some why) = refused_as why

-- The member has executed the call: its answer is held until each backup has what the call saw, and its effect was written to each
pub record HasExecuted {S Plan Call State : Type 0} (model : ShelfModel S Plan Call State) (plan : Plan) (id : CallId) (call : Call) (now : ℕ) (old new : Node S) (e : Execution) : Type 0 where
  pub reached : reached (member_of old) (node_of old) ≡ Executes
  pub node : let changes = (model.object plan).changes (model.state (contents_of old)) call now in
      node_of new ≡ settled (executing changes id.conn id.number (node_of old))
  pub contents : model.state (contents_of new) ≡ (model.object plan).after (model.state (contents_of old)) call now
  pub sent : (k : Contents) (bytes : List ℕ) → model.effect_of plan (model.state (contents_of old)) call now ≡ Some bytes →
      let after = executing true id.conn id.number (node_of old) in
      k.effect after.pair.version after.pair.count ≡ bytes → e.sent ≡ map (written k) (sent_on_executing true after)
  pub fits : (k : Contents) (bytes : List ℕ) → model.effect_of plan (model.state (contents_of old)) call now ≡ Some bytes →
      let after = executing true id.conn id.number (node_of old) in
      k.effect after.pair.version after.pair.count ≡ bytes → All (Fits k) (sent_on_executing true after)
  pub silent : model.effect_of plan (model.state (contents_of old)) call now ≡ None → e.sent ≡ []
  pub answers : let state = model.state (contents_of old) in
      let after = executing ((model.object plan).changes state call now) id.conn id.number (node_of old) in
      let answer = answer_at after id ((model.object plan).reply state call now) (model.change_of plan state call now) in
      waiting new ++ held_answers new ≡ waiting old ++ held_answers old ++ answer ∷ []
  pub ring : ring_of new ≡ ring_after (model.effect_of plan (model.state (contents_of old)) call now) (ring_of old)
  pub version : e.version ≡ (node_of old).pair.version
  pub seen : let changes = (model.object plan).changes (model.state (contents_of old)) call now in
      e.seen ≡ (executing changes id.conn id.number (node_of old)).pair.count
  pub reply : e.reply ≡ (model.object plan).reply (model.state (contents_of old)) call now
  pub held : e.is_held ≡ not (is_empty (node_of new).held)
  pub ends : ends_of new ≡ ends_of old

-- A refusal tells what became of the call, and changes nothing
abbrev pub HasCalled : {S Plan Call State : Type 0} → ShelfModel S Plan Call State → Plan → CallId → Call → ℕ → Node S → Node S → Called → Type 0
HasCalled model plan id call now old new (Executed e) = HasExecuted model plan id call now old new e
HasCalled model plan id call now old new (Refused why) = (reached (member_of old) (node_of old) ≡ refused_as why) × IsUnchanged model.state old new
