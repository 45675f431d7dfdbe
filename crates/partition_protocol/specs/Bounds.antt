-- How large versions and counts become: after n events a version is at most n + 1, and a count at most n.
-- A program that keeps them in so many bits can tell by the number of its events that none overflows.
use Rattle.std.specs.Prelude.{◌≡◌, ℕ, ◌+◌, ◌≤◌, List, length, Some, slice_get, Contains}
use Rattle.grid_base.specs.Objects.{Object}
use Rattle.partition_table.specs.declared.Row.{Row}
use Rattle.partition_protocol.specs.Messages.{Message, NewRow, Sync, Effect, Bridge, Ack, Joined, Freeze, Frozen, Packet}
use Rattle.partition_protocol.specs.Node.{Pair, Acknowledged, Earlier, Held, Node}
use Rattle.partition_protocol.specs.History.{Entry, Called, Reset, Base}
use Rattle.partition_protocol.specs.World.{World, start}
use Rattle.partition_protocol.specs.Events.{Event, run}

-- a row's reset is the version of a row
pub record IsRowWithin (n : ℕ) (row : Row) : Type 0 where
  pub version : row.version ≤ n + 1
  pub reset : row.reset ≤ n + 1

pub record IsPairWithin (n : ℕ) (pair : Pair) : Type 0 where
  pub version : pair.version ≤ n + 1
  pub count : pair.count ≤ n

-- what was acknowledged are counts
abbrev pub AreAcksWithin : ℕ → List Acknowledged → Type 0
AreAcksWithin n acks = (a : Acknowledged) → Contains acks a → a.count ≤ n

-- what a call saw is a count
abbrev pub AreHeldWithin : ℕ → List Held → Type 0
AreHeldWithin n held = (h : Held) → Contains held h → h.seen ≤ n

pub record IsEarlierWithin (n : ℕ) (earlier : Earlier) : Type 0 where
  pub version : earlier.version ≤ n + 1
  pub acks : AreAcksWithin n earlier.acks

-- all that a member keeps
pub record IsNodeWithin (n : ℕ) (node : Node) : Type 0 where
  pub known : IsRowWithin n node.known
  pub pair : IsPairWithin n node.pair
  pub acks : AreAcksWithin n node.acks
  pub earlier : (e : Earlier) → node.earlier ≡ Some e → IsEarlierWithin n e
  pub recent : node.recent ≤ n
  pub adopted : node.adopted ≤ n
  pub held : AreHeldWithin n node.held

-- all that a message says
abbrev pub IsMessageWithin : ℕ → Message → Type 0
IsMessageWithin n (NewRow row) = IsRowWithin n row
IsMessageWithin n (Sync row c) = IsRowWithin n row × (c ≤ n)
IsMessageWithin n (Effect v i) = (v ≤ n + 1) × (i ≤ n)
IsMessageWithin n (Bridge row e k) = IsRowWithin n row × (e ≤ n + 1) × (k ≤ n)
IsMessageWithin n (Ack v c) = (v ≤ n + 1) × (c ≤ n)
IsMessageWithin n (Joined v b) = v ≤ n + 1
IsMessageWithin n (Freeze v) = v ≤ n + 1
IsMessageWithin n (Frozen v) = v ≤ n + 1

-- all that is recorded of a version's beginning
pub record IsBaseWithin (n : ℕ) (b : Base) : Type 0 where
  pub version : b.version ≤ n + 1
  pub reset : b.reset ≤ n + 1
  pub pair : IsPairWithin n b.pair

abbrev pub IsEntryWithin : {C : Type 0} → ℕ → Entry C → Type 0
IsEntryWithin n (Called x) = (x.version ≤ n + 1) × (x.seen ≤ n)
IsEntryWithin n (Reset r) = r ≤ n + 1

pub record IsWithin {C : Type 0} (n : ℕ) (w : World C) : Type 0 where
  pub row : IsRowWithin n w.service.row
  pub standing : IsRowWithin n w.recorded.standing
  pub nodes : (m : ℕ) (node : Node) → slice_get w.nodes m ≡ Some node → IsNodeWithin n node
  pub packets : (p : Packet) → Contains w.packets p → IsMessageWithin n p.message
  pub released : AreHeldWithin n w.released
  pub bases : (b : Base) → Contains w.recorded.bases b → IsBaseWithin n b
  pub log : (x : Entry C) → Contains w.recorded.log x → IsEntryWithin n x

-- of any number of members and backups
abbrev pub EveryRunIsWithin : {C State : Type 0} → Object C State → Type 0
EveryRunIsWithin {C} o = (partition members backups : ℕ) (events : List (Event C)) → IsWithin (length events) (run o (start partition members backups) events)
