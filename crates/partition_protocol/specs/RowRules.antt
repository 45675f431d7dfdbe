-- What is first asked of rows: that a member never goes back to an earlier one, when a row is lost, and who says so.
use Rattle.std.specs.Prelude.{◌≡◌, ◌≢◌, ℕ, ◌≤◌, ◌<◌, ◌⊎◌, ◌↔◌, true, false, List, Some, slice_get, Contains}
use Rattle.grid_base.specs.Objects.{Object}
use Rattle.partition_table.specs.declared.Row.{Row}
use Rattle.partition_table.specs.Rows.{is_among, is_in, is_eligible, is_empty}
use Rattle.partition_protocol.specs.Messages.{Message, NewRow, Sync, Effect, Bridge, Ack, Joined, Freeze, Frozen, Packet}
use Rattle.partition_protocol.specs.Node.{Node}
use Rattle.partition_protocol.specs.Execution.{PartitionLost}
use Rattle.partition_protocol.specs.World.{World, start, is_live}
use Rattle.partition_protocol.specs.Events.{Event, Call, Detect, Reopen, Refused, happens, run}

-- known rows

-- whatever happens from a world on, a member knows the same row then, or one of a later version
abbrev pub EveryKnownRowGoesOn : {C State : Type 0} → Object C State → Type 0
EveryKnownRowGoesOn {C} o =
    (w : World C) (events : List (Event C)) (m : ℕ) (before after : Node)
    → slice_get w.nodes m ≡ Some before → slice_get (run o w events).nodes m ≡ Some after
    → (after.known ≡ before.known) ⊎ (before.known.version < after.known.version)

-- lost partitions

-- a live member answers a call that the partition is lost exactly where the row that it knows is lost, and by that row's version
abbrev pub EveryLossIsTold : {C State : Type 0} → Object C State → Type 0
EveryLossIsTold {C} o =
    (w : World C) (m conn number : ℕ) (call : C) (now : ℕ) (node : Node) (v : ℕ) → is_live w m ≡ true → slice_get w.nodes m ≡ Some node
    → ((happens o w (Call m conn number call now)).outcome ≡ Refused (PartitionLost v)) ↔ ((node.known.lost ≡ true) × (node.known.version ≡ v))

-- lost rows

-- the member has crashed, and the service wasn't told of it yet
abbrev pub IsUntold : {C : Type 0} → World C → ℕ → Type 0
IsUntold w m = (m < w.members) × (is_among w.crashed m ≡ true) × (is_among w.service.detected m ≡ false)

-- it is in the row, and no other member of the row may lead
abbrev pub IsLastToLead : Row → ℕ → Type 0
IsLastToLead row m = (is_in row m ≡ true) × ((q : ℕ) → is_eligible row q ≡ true → q ≡ m)

pub record LosesByRule {C State : Type 0} (o : Object C State) (w : World C) : Type 0 where
  -- the row is lost as the service is told of the crash of its last member that may lead, and only so
  pub detected : (m : ℕ) → w.service.row.lost ≡ false
      → ((happens o w (Detect m)).world.service.row.lost ≡ true) ↔ (IsUntold w m × IsLastToLead w.service.row m)
  pub others : (event : Event C) → ((m : ℕ) → event ≢ Detect m) → w.service.row.lost ≡ false
      → (happens o w event).world.service.row.lost ≡ false
  -- a lost row stays the newest until it is reopened
  pub stays : (event : Event C) → event ≢ Reopen → w.service.row.lost ≡ true → (happens o w event).world.service.row ≡ w.service.row
  -- which needs a member of whose crash the service wasn't told
  pub reopened : w.service.row.lost ≡ true
      → ((happens o w Reopen).world.service.row.lost ≡ false) ↔ ((m : ℕ) × (m < w.members) × (is_among w.service.detected m ≡ false))

abbrev pub EveryRowIsLostByRule : {C State : Type 0} → Object C State → Type 0
EveryRowIsLostByRule {C} o = (partition members backups : ℕ) (events : List (Event C)) → 1 ≤ members → LosesByRule o (run o (start partition members backups) events)

-- empty rows

-- it is lost exactly where it has no members
abbrev pub IsLostIfEmpty : Row → Type 0
IsLostIfEmpty row = row.lost ≡ is_empty row.members

-- so is the row that a message carries
abbrev pub IsRowLostIfEmpty : Message → Type 0
IsRowLostIfEmpty (NewRow row) = IsLostIfEmpty row
IsRowLostIfEmpty (Sync row c) = IsLostIfEmpty row
IsRowLostIfEmpty (Bridge row e k) = IsLostIfEmpty row
IsRowLostIfEmpty (Effect v i) = Unit {0}
IsRowLostIfEmpty (Ack v c) = Unit {0}
IsRowLostIfEmpty (Joined v b) = Unit {0}
IsRowLostIfEmpty (Freeze v) = Unit {0}
IsRowLostIfEmpty (Frozen v) = Unit {0}

pub record AreRowsLostIfEmpty {C : Type 0} (w : World C) : Type 0 where
  pub newest : IsLostIfEmpty w.service.row
  pub known : (m : ℕ) (node : Node) → slice_get w.nodes m ≡ Some node → IsLostIfEmpty node.known
  pub packets : (p : Packet) → Contains w.packets p → IsRowLostIfEmpty p.message

abbrev pub EveryRowIsLostIfEmpty : {C State : Type 0} → Object C State → Type 0
EveryRowIsLostIfEmpty {C} o = (partition members backups : ℕ) (events : List (Event C)) → 1 ≤ members → AreRowsLostIfEmpty (run o (start partition members backups) events)
