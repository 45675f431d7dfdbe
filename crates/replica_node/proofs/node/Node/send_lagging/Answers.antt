-- Each turn writes one backup more what it lacks, if it lags.
use Rattle.std.proofs.Common.{arith, false, [], if◌then◌else◌, ap, ◌∙◌}
use Rattle.partition_table.specs.declared.RowMember.{RowMember}
use Rattle.partition_table.specs.Rows.{backups_of}
use Rattle.partition_protocol.specs.CatchUp.{catch_up}
use Rattle.partition_protocol.specs.Replica.{lags}
use Rattle.primary_hold.specs.Views.{viewed}
use Rattle.replica_node.proofs.SendLists.{sends_more, sends_all}
use Rattle.replica_node.proofs.node.Node.send_lagging.Goals as goal

pub loop-backup-preserved : goal.loop-backup-preserved
loop-backup-preserved g c = record {
  sent = sends_more _ (λ (b : RowMember). if lags (viewed c.args.view.now) b.member then catch_up (viewed c.args.view.now) b else [])
      c.backups-backup-items.result.now c.loop-backup.backup-index (record { member = 0; eligible = false })
      _ _ _ (omega arith) c.loop-backup.invariant.sent c.in_ok-send_if_lagging.ensures.sent;
  made = c.in_ok-send_if_lagging.ensures.made;
}

pub returns : goal.returns
returns g c =
    sends_all _ (λ (b : RowMember). if lags (viewed c.args.view.now) b.member then catch_up (viewed c.args.view.now) b else [])
    c.backups-backup-items.result.now _ c.loop-backup.backup-index
    _ _ (omega arith) (c.backups-backup-items.ensures ∙ ap backups_of c.row.ensures) c.loop-backup.invariant.sent
