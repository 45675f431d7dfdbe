-- The bytes that come to a member alone from another end.
use Rattle.std.specs.Prelude.{◌≡◌, ℕ, ◌+◌, true, List, Option, is_some}
use Rattle.grid_base.specs.Objects.{IsSmall}
use Rattle.grid_base.specs.Shelves.{ShelfModel, Meaning}
use Rattle.partition_protocol.specs.Messages.{Message, Sync, Effect}
use Rattle.partition_protocol.specs.Took.{Took, Applied}
use Rattle.partition_protocol.specs.Node.{Pair}
use Rattle.partition_protocol.specs.Replica.{taking}
use Rattle.member_wire.specs.declared.message.MemberMessage.{MemberMessage}
use Rattle.member_wire.specs.declared.message.MemberMessage.TheVariants as said
use Rattle.member_wire.specs.Spelling.{IsSpelled, spelling}
use Rattle.member_wire.specs.Said.{message_of}
use Rattle.replica_node.specs.Nodes.{node_of, contents_of, member_of, service_of}
use Rattle.replica_node.specs.Takings.{IsFit}
use Rattle.apart_protocol.specs.Contents.{Change, Cargo, Bare, Whole, Made}
use Rattle.member_alone.specs.declared.lone.LoneMember.{LoneMember}
use Rattle.member_alone.specs.Spelled.{said_of}

-- The change was made on this state, which its call changes
pub record IsMadeOn {S C State : Type 0} (k : Meaning S C State) (limits : C → Type 0) (change : Change C State) (state : State) : Type 0 where
  pub before : change.before ≡ state
  pub within_limits : limits change.call
  pub changes : k.object.changes state change.call change.now ≡ true

-- With a Sync comes a small state, and with an Effect the change that made it: one that is applied was made on the state at hand, which it changes.
-- Nothing goes with any other message
abbrev pub CargoFits : {S C State : Type 0} → Meaning S C State → (ℕ → State → Type 0) → (C → Type 0) → Message → Cargo C State → Took → State → Type 0
CargoFits {State = State} k within limits (Sync row count) cargo took state = (whole : State) × (cargo ≡ Whole whole) × IsSmall within whole
CargoFits {C = C} {State = State} k within limits (Effect version number) cargo took state =
    (change : Change C State) × (cargo ≡ Made change) × (took ≡ Applied → IsMadeOn k limits change state)
CargoFits k within limits message cargo took state = cargo ≡ Bare

-- The bytes are this message with this cargo, which fits where the member takes it now
pub record Brings {S C State : Type 0} (k : Meaning S C State) (within : ℕ → State → Type 0) (limits : C → Type 0) (value : LoneMember S)
    (from : ℕ) (bytes : List ℕ) (message : Message) (cargo : Cargo C State) : Type 0 where
  pub has_spelling : IsSpelled (said_of k message cargo)
  pub says : bytes ≡ spelling (said_of k message cargo)
  pub fits : let m = member_of value.node in let step = taking (service_of value.node) m from message (node_of value.node) in
      CargoFits k within limits message cargo step.took (k.state (contents_of value.node))

-- A message fits where the member takes it now, as its node asks
abbrev pub FitsIn : {S Plan C State : Type 0} → ShelfModel S Plan C State → LoneMember S → ℕ → MemberMessage → Type 0
FitsIn model value from message =
    let step = taking (service_of value.node) (member_of value.node) from (message_of message) (node_of value.node) in
    IsFit model.within model.applied model.snapshot_of message step.took (model.state (contents_of value.node))

-- What can be seen of a message before it is taken: an effect that is the next one for contents of a pair fits them, and whole contents are a small state's
abbrev pub LooksFit : {State : Type 0} → (ℕ → State → Type 0) → (List ℕ → State → Option State) → (State → List ℕ)
    → MemberMessage → Pair → State → Type 0
LooksFit within applied snapshot_of (said.Effect version number effect) pair state =
    pair.version ≡ version → number ≡ pair.count + 1 → is_some (applied effect state) ≡ true
LooksFit {State = State} within applied snapshot_of (said.Sync row count snapshot) pair state =
    (x : State) × IsSmall within x × (snapshot_of x ≡ snapshot)
LooksFit within applied snapshot_of message pair state = Unit {0}

-- and what the member sees of it
abbrev pub LooksFitIn : {S Plan C State : Type 0} → ShelfModel S Plan C State → LoneMember S → MemberMessage → Type 0
LooksFitIn model value message =
    LooksFit model.within model.applied model.snapshot_of message (node_of value.node).pair (model.state (contents_of value.node))

-- The member's contents are a small state
abbrev pub IsSmallIn : {S Plan C State : Type 0} → ShelfModel S Plan C State → LoneMember S → Type 0
IsSmallIn model value = IsSmall model.within (model.state (contents_of value.node))
