-- What goes with the messages that a member sends: its contents as they are then, and the newest effects that it keeps.
use Rattle.std.specs.Prelude.{◌≡◌, ℕ, ◌+◌, min, ◌<◌, ◌≤◌, List, [], map, Option, Some, unwrap_or, Contains}
use Rattle.partition_protocol.specs.Messages.{Message, NewRow, Sync, Effect, Bridge, Ack, Joined, Freeze, Frozen, Sent, Packet}
use Rattle.partition_protocol.specs.Node.{Node}
use Rattle.partition_protocol.specs.CatchUp.{recent_limit}
use Rattle.partition_protocol.specs.World.{World as Machine}
use Rattle.partition_protocol.specs.Links.{link}
use Rattle.member_wire.specs.Said.{Contents, said_with}
use Rattle.member_wire.specs.Spelling.{LengthsFit}
use Rattle.grid_base.specs.Shelves.{Meaning}
use Rattle.partition_world.specs.InFlight.{contents_in, bytes_of}

-- a snapshot is of the state at hand, whatever names it, and an effect is one of those that are kept
abbrev pub carried_of : {State : Type 0} → (State → List ℕ) → State → (ℕ → Option (List ℕ)) → Contents
carried_of snapshot_of state kept = record {
  snapshot = λ version count. snapshot_of state;
  effect = λ version number. unwrap_or (kept number) [];
}

-- each of its newest effects is kept
abbrev pub HasNewest : Node → (ℕ → Option (List ℕ)) → Type 0
HasNewest node kept = (i : ℕ) → node.pair.count < i + min recent_limit node.recent → i ≤ node.pair.count → (bytes : List ℕ) × (kept i ≡ Some bytes)

-- what is written with these contents is what the world names
abbrev pub IsNamed : {S C State : Type 0} → Meaning S C State → Machine C → Contents → Sent → Type 0
IsNamed k w contents sent = said_with contents sent.message ≡ said_with (contents_in k w) sent.message

-- the bytes in flight on a link
abbrev pub flying : {S C State : Type 0} → Meaning S C State → Machine C → ℕ → ℕ → List (List ℕ)
flying k w f t = map (bytes_of k w) (link f t w.packets)

-- the lengths of what goes with each message in flight can be written down
abbrev pub HasFit : {S C State : Type 0} → Meaning S C State → Machine C → Type 0
HasFit k w = (p : Packet) → Contains w.packets p → LengthsFit (said_with (contents_in k w) p.message)

-- how many messages a member sends another one at most as it takes this one
abbrev pub most_of : Message → ℕ
most_of (NewRow row) = 65
most_of (Sync row count) = 65
most_of (Bridge row base count) = 65
most_of (Effect version number) = 2
most_of (Ack version count) = 2
most_of (Joined version member) = 2
most_of (Freeze version) = 2
most_of (Frozen version) = 2
