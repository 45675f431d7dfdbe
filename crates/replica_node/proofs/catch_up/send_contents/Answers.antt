-- Each turn writes the contents to one backup more.
use Rattle.std.proofs.Common.{arith, false}
use Rattle.partition_table.specs.declared.RowMember.{RowMember}
use Rattle.partition_protocol.specs.Messages.{Sync}
use Rattle.partition_protocol.specs.Replica.{to_one}
use Rattle.replica_node.proofs.SendLists.{sends_more, sends_all}
use Rattle.replica_node.proofs.catch_up.send_contents.Goals as goal

pub loop-backup-preserved : goal.loop-backup-preserved
loop-backup-preserved g c = record {
  sent = λ k h. sends_more k (λ (b : RowMember). to_one b.member (Sync c.args.row.now c.args.count)) c.backups-backup-items.result.now c.loop-backup.backup-index (record { member = 0; eligible = false })
      _ _ _ (omega arith) (c.loop-backup.invariant.sent k h) (c.in_ok-send_whole.ensures.sent k h);
  made = c.in_ok-send_whole.ensures.made;
}

pub returns : goal.returns
returns g c = record {
  sent = λ k h.
      sends_all k (λ (b : RowMember). to_one b.member (Sync c.args.row.now c.args.count)) c.backups-backup-items.result.now _ c.loop-backup.backup-index
      _ _ (omega arith) c.backups-backup-items.ensures (c.loop-backup.invariant.sent k h);
}
