-- Memory for the adoption of a row.
use Rattle.std.specs.Prelude.{◌≡◌, ◌≤◌, ℕ, true, false, length}
use Rattle.partition_table.specs.declared.Row.{Row}
use Rattle.partition_table.specs.Rows.{is_primary, backups_of}
use Rattle.partition_protocol.specs.Node.{Node}
use Rattle.partition_protocol.specs.CatchUp.{recent_limit}
use Rattle.partition_protocol.specs.Adoption.{stays_primary}
use Rattle.primary_hold.specs.declared.room.Room.{Room}

-- A primary has room for an acknowledgement of each backup, and for its newest effects where it doesn't go on with those that it has.
pub record IsRoomFor (node : Node) (m : ℕ) (row : Row) (room : Room) : Type 0 where
  pub acks : is_primary row m ≡ true → length (backups_of row) ≤ room.acks.spare
  pub effects : is_primary row m ≡ true → stays_primary row node m ≡ false → room.effects.capacity ≡ recent_limit
