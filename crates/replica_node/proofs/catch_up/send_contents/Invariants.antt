use Rattle.std.proofs.Common.{◌≡◌, take}
use Rattle.std.specs.List.{flat_map}
use Rattle.partition_table.specs.declared.RowMember.{RowMember}
use Rattle.partition_protocol.specs.Messages.{Sync}
use Rattle.partition_protocol.specs.Replica.{to_one}
use Rattle.member_wire.specs.Said.{Contents}
use Rattle.replica_node.specs.Sending.{Sends, IsOf}
use Rattle.replica_node.proofs.catch_up.send_contents.Given as goal

-- the backups before this one were sent the contents, and the snapshot is of these
abbrev pub invariant-loop-backup : goal.invariant-loop-backup
invariant-loop-backup g l = record {
  sent : (k : Contents) → k.snapshot l.row.version l.count ≡ g.S.Shelf.model.snapshot_of (g.S.Shelf.model.state l.shelf) →
      Sends k (flat_map (λ (b : RowMember). to_one b.member (Sync l.row l.count)) (take l.backup-index l.backup-items)) l.initial.out l.out;
  made : IsOf (g.S.Shelf.model.snapshot_of (g.S.Shelf.model.state l.shelf)) l.snapshot;
}
