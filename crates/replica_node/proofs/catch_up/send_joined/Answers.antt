-- Each turn tells the service of one backup more, if it has joined.
use Rattle.std.proofs.Common.{arith, false, ap, ◌∙◌}
use Rattle.partition_table.specs.Rows.{backups_of}
use Rattle.partition_protocol.specs.Replica.{joined_again}
use Rattle.primary_hold.specs.Views.{viewed}
use Rattle.replica_node.proofs.SendLists.{sends_more, sends_all}
use Rattle.replica_node.proofs.catch_up.send_joined.Goals as goal

pub loop-backup-preserved : goal.loop-backup-preserved
loop-backup-preserved c = λ k.
    sends_more k (joined_again c.args.service (viewed c.args.view.now)) c.backups-backup-items.result.now c.loop-backup.backup-index (record { member = 0; eligible = false })
    _ _ _ (omega arith) (c.loop-backup.invariant k) (c.in_ok-send_if_joined.ensures k)

pub returns : goal.returns
returns c = λ k.
    sends_all k (joined_again c.args.service (viewed c.args.view.now)) c.backups-backup-items.result.now _ c.loop-backup.backup-index
    _ _ (omega arith) (c.backups-backup-items.ensures ∙ ap backups_of c.row.ensures) (c.loop-backup.invariant k)
