-- The bytes of the messages in flight. The protocol's messages name contents, and the bytes are those of what is named: recomputed from the calls, and from no message.
use Rattle.std.specs.Prelude.{◌≡◌, ℕ, ◌-◌, ◌<◌, ◌≤◌, List, [], Option, Some, None, unwrap_or, Contains}
use Rattle.partition_protocol.specs.Messages.{Packet}
use Rattle.partition_protocol.specs.Node.{Node, Earlier}
use Rattle.partition_protocol.specs.History.{Executed, Base}
use Rattle.partition_protocol.specs.World.{World as Machine, pair_state}
use Rattle.partition_protocol.specs.NamedStates.{effect_call}
use Rattle.member_wire.specs.Said.{Contents, said_with}
use Rattle.member_wire.specs.Spelling.{spelling}
use Rattle.grid_base.specs.Shelves.{Meaning}

-- the state that a version has after so many effects
abbrev pub state_at : {S C State : Type 0} → Meaning S C State → Machine C → ℕ → ℕ → State
state_at k w v c = pair_state k.object w (record { version = v; count = c })

-- the bytes of an effect: those of the call that made it, on the state before it
abbrev pub bytes_by : {S C State : Type 0} → Meaning S C State → State → Option (Executed C) → List ℕ
bytes_by k before None = []
bytes_by k before (Some x) = unwrap_or (k.effect_of before x.call x.now) []

abbrev pub effect_bytes : {S C State : Type 0} → Meaning S C State → Machine C → ℕ → ℕ → List ℕ
effect_bytes k w v i = bytes_by k (state_at k w v (i - 1)) (effect_call w v i)

-- what goes with each message
abbrev pub contents_in : {S C State : Type 0} → Meaning S C State → Machine C → Contents
contents_in k w = record { snapshot = λ v c. k.snapshot_of (state_at k w v c); effect = λ v i. effect_bytes k w v i }

-- the bytes of a message in flight
abbrev pub bytes_of : {S C State : Type 0} → Meaning S C State → Machine C → Packet → List ℕ
bytes_of k w p = spelling (said_with (contents_in k w) p.message)

-- What a primary keeps of its newest effects is right: of those of the version that it knows, and of those of the version before, from where that began
pub record IsRing {S C State : Type 0} (k : Meaning S C State) (w : Machine C) (node : Node) (kept : ℕ → Option (List ℕ)) : Type 0 where
  pub known : (i : ℕ) (bytes : List ℕ) → node.adopted < i → i ≤ node.pair.count → kept i ≡ Some bytes → bytes ≡ effect_bytes k w node.known.version i
  pub earlier : (e : Earlier) (b : Base) (i : ℕ) (bytes : List ℕ) → node.earlier ≡ Some e → Contains w.recorded.bases b → b.version ≡ e.version → b.pair.count < i → i ≤ node.adopted
      → kept i ≡ Some bytes → bytes ≡ effect_bytes k w e.version i
