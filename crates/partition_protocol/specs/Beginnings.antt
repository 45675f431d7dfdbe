-- With what each version began, and what was counted past it: every count is an effect of a call, and a primary knows with which count its version began.
use Rattle.std.specs.Prelude.{◌≡◌, ℕ, ◌+◌, min, ◌≤◌, ◌<◌, true, List, Some, slice_get, Contains}
use Rattle.grid_base.specs.Objects.{Object}
use Rattle.partition_table.specs.declared.RowMember.{RowMember}
use Rattle.partition_table.specs.Rows.{is_primary, backups_of}
use Rattle.partition_protocol.specs.Messages.{Effect, Sent}
use Rattle.partition_protocol.specs.Node.{Acknowledged, Earlier, Node, acked}
use Rattle.partition_protocol.specs.CatchUp.{recent_limit, catch_up}
use Rattle.partition_protocol.specs.History.{Base}
use Rattle.partition_protocol.specs.World.{World, start}
use Rattle.partition_protocol.specs.Events.{Event, run}
use Rattle.partition_protocol.specs.Claims.{IsLawful}
use Rattle.partition_protocol.specs.NamedStates.{IsEffect}

-- counts

-- what is counted in a version past the count with which it began are its effects
pub record AreCountsEffects {C State : Type 0} (o : Object C State) (w : World C) : Type 0 where
  -- up to the count of each member
  pub members : (m : ℕ) (node : Node) (b : Base) (i : ℕ) → slice_get w.nodes m ≡ Some node → Contains w.recorded.bases b → b.version ≡ node.pair.version
      → b.pair.count < i → i ≤ node.pair.count → IsEffect o w node.pair.version i
  -- for a primary, past the count with which it adopted the version
  pub primaries : (m : ℕ) (node : Node) (i : ℕ) → slice_get w.nodes m ≡ Some node → is_primary node.known m ≡ true
      → node.adopted < i → i ≤ node.pair.count → IsEffect o w node.known.version i
  -- and up to the count with which another version began from it
  pub bases : (b before : Base) (i : ℕ) → Contains w.recorded.bases b → Contains w.recorded.bases before → before.version ≡ b.pair.version
      → before.pair.count < i → i ≤ b.pair.count → IsEffect o w b.pair.version i

-- of any number of members and backups
abbrev pub EveryCountIsAnEffect : {C State : Type 0} → Object C State → Type 0
EveryCountIsAnEffect {C} o =
    (partition members backups : ℕ) (events : List (Event C)) → 1 ≤ members → IsLawful o
    → AreCountsEffects o (run o (start partition members backups) events)

-- beginnings

-- what a primary keeps of the version that it knew before: the known version began from it, with the count that it adopted
pub record KnowsEarlier {C : Type 0} (w : World C) (node : Node) (began : Base) (e : Earlier) : Type 0 where
  pub older : e.version < node.known.version
  pub pair : began.pair ≡ record { version = e.version; count = node.adopted }
  -- the base of that version, and what was acknowledged in it
  pub before : Base
  pub recorded : Contains w.recorded.bases before
  pub version : before.version ≡ e.version
  pub acks : (a : Acknowledged) → Contains e.acks a → (before.pair.count ≤ a.count) × (a.count ≤ node.adopted)

-- what a primary keeps of the version that it knows, be it the newest or an old one
pub record KnowsBeginning {C : Type 0} (w : World C) (node : Node) : Type 0 where
  pub contents : node.pair.version ≡ node.known.version
  -- the base of its version, which began with the count that the node adopted: with 0 if it began anew
  pub began : Base
  pub recorded : Contains w.recorded.bases began
  pub version : began.version ≡ node.known.version
  pub reset : began.reset ≡ node.known.reset
  pub count : began.pair.count ≡ node.adopted
  pub adopted : node.adopted ≤ node.pair.count
  pub recent : node.recent ≤ node.pair.count
  -- what was acknowledged is between the two counts, and so is what is taken as acknowledged in the initial row
  pub acks : (a : Acknowledged) → Contains node.acks a → (node.adopted ≤ a.count) × (a.count ≤ node.pair.count)
  pub counted : (b c : ℕ) → acked node b ≡ Some c → (node.adopted ≤ c) × (c ≤ node.pair.count)
  pub earlier : (e : Earlier) → node.earlier ≡ Some e → KnowsEarlier w node began e

-- of any number of members and backups
abbrev pub EveryPrimaryKnowsItsBeginning : {C State : Type 0} → Object C State → Type 0
EveryPrimaryKnowsItsBeginning {C} o =
    (partition members backups : ℕ) (events : List (Event C)) (m : ℕ) (node : Node) → 1 ≤ members
    → let w = run o (start partition members backups) events in
    slice_get w.nodes m ≡ Some node → is_primary node.known m ≡ true → KnowsBeginning w node

-- catching up

-- each effect by which a primary has a backup catch up is one of the newest that it keeps
abbrev pub EveryCatchUpIsRecent : {C State : Type 0} → Object C State → Type 0
EveryCatchUpIsRecent {C} o =
    (partition members backups : ℕ) (events : List (Event C)) (m : ℕ) (node : Node) (b : RowMember) (s : Sent) (v i : ℕ) → 1 ≤ members → IsLawful o
    → let w = run o (start partition members backups) events in
    slice_get w.nodes m ≡ Some node → is_primary node.known m ≡ true → Contains (backups_of node.known) b
    → Contains (catch_up node b) s → s.message ≡ Effect v i
    → IsEffect o w v i × (node.pair.count < i + min recent_limit node.recent) × (i ≤ node.pair.count)
