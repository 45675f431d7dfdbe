use Rattle.std.proofs.Common.{◌≡◌, map, take}
use Rattle.partition_table.specs.declared.RowMember.{RowMember}
use Rattle.partition_protocol.specs.Messages.{Effect}
use Rattle.member_wire.specs.Said.{Contents}
use Rattle.replica_node.specs.Sending.{Sends}
use Rattle.replica_node.proofs.calls.send_to_all.Given as goal

-- the backups before this one were sent the effect
abbrev pub invariant-loop-backup : goal.invariant-loop-backup
invariant-loop-backup l = (k : Contents) → k.effect l.version l.number ≡ l.effect →
    Sends k (map (λ (b : RowMember). record { to = b.member; message = Effect l.version l.number }) (take l.backup-index l.backups)) l.initial.out l.out
