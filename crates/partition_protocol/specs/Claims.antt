-- What holds of a partition after every list of events: whatever is lost, repeated or late, and whoever crashes.
use Rattle.std.specs.Prelude.{◌≡◌, ℕ, ◌≤◌, ◌<◌, ◌⊎◌, Bool, true, false, List, [], ◌++◌, map, Some, slice_get, Contains, filter}
use Rattle.grid_base.specs.Objects.{Object}
use Rattle.partition_table.specs.declared.RowMember.{RowMember}
use Rattle.partition_table.specs.Rows.{is_primary, is_backup}
use Rattle.partition_protocol.specs.Messages.{Ack, Packet}
use Rattle.partition_protocol.specs.Node.{Node, Held, acked}
use Rattle.partition_protocol.specs.History.{Executed, Entry, Called, Reset, Base, begins_anew, IsLegal}
use Rattle.partition_protocol.specs.World.{World, start, is_live, pair_history, pair_state, trail}
use Rattle.partition_protocol.specs.Events.{Event, happens, run}
use Rattle.partition_protocol.specs.Arrivals.{name, arrivals, calls_in, NamedOnce}
use Rattle.partition_protocol.specs.Sequences.{IsSubsequence, IsFrontOf}

-- a reopening, and no call
abbrev pub is_reset : {C : Type 0} → Entry C → Bool
is_reset (Called x) = false
is_reset (Reset r) = true

-- the call of a held or released answer stands in a history
abbrev pub Stands : {C : Type 0} → Held → List (Entry C) → Type 0
Stands {C} h es = (x : Executed C) × Contains es (Called x) × (x.conn ≡ h.conn) × (x.number ≡ h.number) × (x.seen ≡ h.seen)

-- how a partition stands at any time
pub record IsSafe {C State : Type 0} (o : Object C State) (w : World C) : Type 0 where
  -- the trail is the history of one object used by one thread, and emptied at each reset
  pub legal : IsLegal o o.empty (trail w)
  -- it is in order of execution, so each call stands in it at most once
  pub in_order : IsSubsequence (trail w) w.recorded.log
  -- it has every reopening
  pub resets : filter is_reset (trail w) ≡ filter is_reset w.recorded.log
  -- and every answer that was released
  pub answered : (h : Held) → Contains w.released h → Stands h (trail w)
  -- which every member that may be promoted has, once its contents are of the row's reset or later
  pub kept : (q : RowMember) (node : Node) (h : Held) → Contains w.service.row.members q → q.eligible ≡ true → slice_get w.nodes q.member ≡ Some node
      → w.service.row.reset ≤ node.pair.version → Contains w.released h → Stands h (pair_history w node.pair)
  -- a live member that was replaced as primary, and doesn't know it yet, is frozen and holds no answer
  pub deposed : (m : ℕ) (node : Node) → is_live w m ≡ true → slice_get w.nodes m ≡ Some node → is_primary node.known m ≡ true
      → is_primary w.service.row m ≡ false → (node.frozen ≡ true) × (node.held ≡ [])
  -- so is one that knows itself primary of a version before the newest row's reset
  pub outlived : (m : ℕ) (node : Node) → is_live w m ≡ true → slice_get w.nodes m ≡ Some node → is_primary node.known m ≡ true
      → node.known.version < w.service.row.reset → (node.frozen ≡ true) × (node.held ≡ [])
  -- and one that knows itself primary of a version after which another began
  pub stopped : (m : ℕ) (node : Node) (b : Base) → is_live w m ≡ true → slice_get w.nodes m ≡ Some node → is_primary node.known m ≡ true
      → Contains w.recorded.bases b → node.known.version < b.version → (node.frozen ≡ true) × (node.held ≡ [])

-- What is executed are calls that arrived, in order of arrival, each at most once. So a released answer names one entry, whose reply is that of the trail
pub record IsFaithful {C : Type 0} (events : List (Event C)) (w : World C) : Type 0 where
  pub arrived : IsSubsequence (calls_in w.recorded.log) (arrivals events)
  pub once : NamedOnce (map name (calls_in w.recorded.log))

-- of any number of members and backups, where no two calls have one name
abbrev pub EveryRunIsSafe : {C State : Type 0} → Object C State → Type 0
EveryRunIsSafe {C} o =
    (partition members backups : ℕ) (events : List (Event C)) → 1 ≤ members → NamedOnce (map name (arrivals events))
    → let w = run o (start partition members backups) events in
    IsSafe o w × IsFaithful events w

-- What was executed and what was answered only grow, at the end.
-- So in a trail, which keeps the order of execution, a call that was answered stands before each that arrives later
abbrev pub EveryRunExtends : {C State : Type 0} → Object C State → Type 0
EveryRunExtends {C} o =
    (partition members backups : ℕ) (events more : List (Event C))
    → let w = run o (start partition members backups) events in
    let next = run o (start partition members backups) (events ++ more) in
    IsFrontOf w.recorded.log next.recorded.log × IsFrontOf w.released next.released

-- An answer that a member holds is held on until it is released. So a member that stops being primary holds none
abbrev pub EveryAnswerStays : {C State : Type 0} → Object C State → Type 0
EveryAnswerStays {C} o =
    (partition members backups : ℕ) (events : List (Event C)) (event : Event C) (m : ℕ) (node : Node) (h : Held) → 1 ≤ members
    → let w = run o (start partition members backups) events in
    let next = (happens o w event).world in
    slice_get w.nodes m ≡ Some node → Contains node.held h
    → Contains next.released h ⊎ ((after : Node) × (slice_get next.nodes m ≡ Some after) × Contains after.held h)

-- acknowledgements

-- the member has that version's contents, up to that count at least, or knows a later row
abbrev pub HasReached : {C : Type 0} → World C → ℕ → ℕ → ℕ → Type 0
HasReached w b v c = (node : Node) → slice_get w.nodes b ≡ Some node → ((node.pair.version ≡ v) × (c ≤ node.pair.count)) ⊎ (v < node.known.version)

-- what is acknowledged is so: of each acknowledgement in flight, and of each that a member counts for a backup of its row
pub record IsAcknowledged {C : Type 0} (w : World C) : Type 0 where
  pub in_flight : (p : Packet) (v c : ℕ) → Contains w.packets p → p.message ≡ Ack v c → HasReached w p.from v c
  pub counted : (m : ℕ) (node : Node) (b c : ℕ) → slice_get w.nodes m ≡ Some node → is_backup node.known b ≡ true → acked node b ≡ Some c
      → HasReached w b node.known.version c

-- of any number of members and backups
abbrev pub EveryAckHolds : {C State : Type 0} → Object C State → Type 0
EveryAckHolds {C} o = (partition members backups : ℕ) (events : List (Event C)) → 1 ≤ members → IsAcknowledged (run o (start partition members backups) events)

-- contents

-- a call without an effect leaves the state
pub record IsLawful {C State : Type 0} (o : Object C State) : Type 0 where
  pub unchanged : (s : State) (c : C) (now : ℕ) → o.changes s c now ≡ false → o.after s c now ≡ s

-- An event leaves the state that each member's pair names: contents change only as a member takes something
abbrev pub EveryStateStays : {C State : Type 0} → Object C State → Type 0
EveryStateStays {C} o =
    (partition members backups : ℕ) (events : List (Event C)) (event : Event C) (m : ℕ) (node : Node) → 1 ≤ members → IsLawful o
    → let w = run o (start partition members backups) events in
    slice_get w.nodes m ≡ Some node → pair_state o (happens o w event).world node.pair ≡ pair_state o w node.pair

-- the pair with which a version began, and the same count in that version, name one state. So a bridge changes no contents
abbrev pub EveryBridgeStays : {C State : Type 0} → Object C State → Type 0
EveryBridgeStays {C} o =
    (partition members backups : ℕ) (events : List (Event C)) (b : Base) → 1 ≤ members → IsLawful o
    → let w = run o (start partition members backups) events in
    Contains w.recorded.bases b → 1 ≤ b.pair.version → pair_state o w (record { version = b.version; count = b.pair.count }) ≡ pair_state o w b.pair

-- a version that is begun anew begins with the empty state
abbrev pub EveryBeginningIsEmpty : {C State : Type 0} → Object C State → Type 0
EveryBeginningIsEmpty {C} o =
    (partition members backups : ℕ) (events : List (Event C)) (b : Base) → 1 ≤ members → IsLawful o
    → let w = run o (start partition members backups) events in
    Contains w.recorded.bases b → begins_anew b ≡ true → pair_state o w (record { version = b.version; count = 0 }) ≡ o.empty
