-- What a row is sent with for its backups, in the protocol's words.
use Rattle.std.specs.Prelude.{◌≡◌, ℕ}
use Rattle.partition_table.specs.declared.Row.{Row}
use Rattle.partition_protocol.specs.Node.{Node}
use Rattle.partition_protocol.specs.Replica.{Step, on_sync, on_bridge, sync_backup, bridge_backup}
use Rattle.member_wire.specs.declared.took.Took.{Took}
use Rattle.backup_apply.specs.declared.contents.ContentsChange.{ContentsChange}
use Rattle.backup_apply.specs.declared.contents.ContentsChange.TheVariants.{Keep}
use Rattle.backup_apply.specs.Contents.{IsChangeBySync}
use Rattle.replica_node.specs.declared.decision.Carried.{Carried}
use Rattle.replica_node.specs.declared.decision.Carried.TheVariants.{Whole, Bridge}

abbrev pub on_carried : ℕ → ℕ → Row → Carried → Node → Step
on_carried m from row (Whole count snapshot) node = on_sync m from row count node
on_carried m from row (Bridge base count) node = on_bridge m from row base count node

-- what a backup of the row does about it
abbrev pub backup_carries : ℕ → Row → Carried → Node → Step
backup_carries from row (Whole count snapshot) node = sync_backup from row count node
backup_carries from row (Bridge base count) node = bridge_backup from row base count node

-- whole contents may be installed, and a bridge leaves them as they are
abbrev pub IsCarriedChange : Carried → Took → ContentsChange → Type 0
IsCarriedChange (Whole count snapshot) took change = IsChangeBySync snapshot.now took change
IsCarriedChange (Bridge base count) took change = change ≡ Keep
