-- What every world of a run has the form of: a node for each member, rows that list members once, and messages between two ends.
use Rattle.std.specs.Prelude.{◌≡◌, ◌≢◌, ℕ, ◌<◌, ◌≤◌, List, length, Some, slice_get, Contains, All}
use Rattle.grid_base.specs.Objects.{Object}
use Rattle.partition_table.specs.declared.Row.{Row}
use Rattle.partition_table.specs.declared.RowMember.{RowMember}
use Rattle.partition_table.specs.RowFacts.{HasDistinctMembers}
use Rattle.partition_protocol.specs.Messages.{Message, NewRow, Sync, Effect, Bridge, Ack, Joined, Freeze, Frozen, Packet}
use Rattle.partition_protocol.specs.Node.{Node}
use Rattle.partition_protocol.specs.World.{World, start}
use Rattle.partition_protocol.specs.Events.{Event, run}

-- a row of n members lists some of them, each once
pub record IsRowOf (n : ℕ) (row : Row) : Type 0 where
  pub below : All (λ (r : RowMember). r.member < n) row.members
  pub distinct : HasDistinctMembers row

-- ends: the members' numbers are below n, and the service's is n

abbrev pub IsFromService : ℕ → ℕ → ℕ → Type 0
IsFromService n from to = (from ≡ n) × (to < n)

abbrev pub IsToService : ℕ → ℕ → ℕ → Type 0
IsToService n from to = (from < n) × (to ≡ n)

-- from one member to another
abbrev pub IsBetweenMembers : ℕ → ℕ → ℕ → Type 0
IsBetweenMembers n from to = (from < n) × (to < n) × (from ≢ to)

-- a NewRow and a Freeze go from the service to a member, a Joined and a Frozen to the service, and all else between members
abbrev pub IsMessageOf : ℕ → ℕ → ℕ → Message → Type 0
IsMessageOf n from to (NewRow row) = IsFromService n from to × IsRowOf n row
IsMessageOf n from to (Freeze v) = IsFromService n from to
IsMessageOf n from to (Sync row c) = IsBetweenMembers n from to × IsRowOf n row
IsMessageOf n from to (Effect v i) = IsBetweenMembers n from to
IsMessageOf n from to (Bridge row e k) = IsBetweenMembers n from to × IsRowOf n row
IsMessageOf n from to (Ack v c) = IsBetweenMembers n from to
IsMessageOf n from to (Joined v b) = IsToService n from to × (b < n)
IsMessageOf n from to (Frozen v) = IsToService n from to

-- a message in flight is between two ends, as its kind has them
pub record IsPacketOf (n : ℕ) (p : Packet) : Type 0 where
  pub from : p.from ≤ n
  pub to : p.to ≤ n
  pub apart : p.from ≢ p.to
  pub message : IsMessageOf n p.from p.to p.message

pub record IsWellFormed {C : Type 0} (partition members backups : ℕ) (w : World C) : Type 0 where
  -- it is of what it began with, and has a node for each member
  pub same_partition : w.partition ≡ partition
  pub same_members : w.members ≡ members
  pub same_backups : w.backups ≡ backups
  pub nodes : length w.nodes ≡ members
  -- every row in it lists members, each once
  pub row : IsRowOf members w.service.row
  pub standing : IsRowOf members w.recorded.standing
  pub known : (m : ℕ) (node : Node) → slice_get w.nodes m ≡ Some node → IsRowOf members node.known
  -- and every message in flight is between two ends
  pub packets : (p : Packet) → Contains w.packets p → IsPacketOf members p

-- of any number of members and backups
abbrev pub EveryRunIsWellFormed : {C State : Type 0} → Object C State → Type 0
EveryRunIsWellFormed {C} o =
    (partition members backups : ℕ) (events : List (Event C)) → IsWellFormed partition members backups (run o (start partition members backups) events)
