use Rattle.std.proofs.Common.{take}
use Rattle.std.specs.List.{flat_map}
use Rattle.partition_table.specs.declared.RowMember.{RowMember}
use Rattle.replica_node.specs.Nodes.{contents_of, carried_by}
use Rattle.replica_node.specs.Sending.{Sends, IsOf}
use Rattle.std.proofs.Common.{[], if◌then◌else◌}
use Rattle.partition_protocol.specs.CatchUp.{catch_up}
use Rattle.partition_protocol.specs.Replica.{lags}
use Rattle.primary_hold.specs.Views.{viewed}
use Rattle.replica_node.proofs.node.Node.send_lagging.Given as goal

-- of the backups before this one, those that lag were sent what they lack, and the snapshot is of the contents
abbrev pub invariant-loop-backup : goal.invariant-loop-backup
invariant-loop-backup g l = record {
  sent : Sends (carried_by g.S.Shelf.model.snapshot_of g.S.Shelf.model.state l.self)
      (flat_map (λ (b : RowMember). if lags (viewed l.view) b.member then catch_up (viewed l.view) b else []) (take l.backup-index l.backup-items)) l.initial.out l.out;
  made : IsOf (g.S.Shelf.model.snapshot_of (g.S.Shelf.model.state (contents_of l.self))) l.snapshot;
}
