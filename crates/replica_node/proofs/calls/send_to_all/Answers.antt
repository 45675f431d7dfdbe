-- Each turn writes the effect to one backup more.
use Rattle.std.proofs.Common.{arith, false}
use Rattle.partition_table.specs.declared.RowMember.{RowMember}
use Rattle.partition_protocol.specs.Messages.{Effect}
use Rattle.replica_node.proofs.SendLists.{map_more, map_all, one_sent}
use Rattle.replica_node.proofs.calls.send_to_all.Goals as goal

pub loop-backup-preserved : goal.loop-backup-preserved
loop-backup-preserved c = λ k h.
    map_more k (λ (b : RowMember). record { to = b.member; message = Effect c.args.version c.args.number }) c.args.backups.now c.loop-backup.backup-index (record { member = 0; eligible = false })
    _ _ _ (omega arith) (c.loop-backup.invariant k h) (one_sent k _ (Effect c.args.version c.args.number) _ _ (rw h c.in_ok-write_effect.ensures.ok) (rw h c.in_ok-write_effect.ensures.fits))

pub returns : goal.returns
returns c = λ k h.
    map_all k (λ (b : RowMember). record { to = b.member; message = Effect c.args.version c.args.number }) c.args.backups.now c.loop-backup.backup-index
    _ _ (omega arith) (c.loop-backup.invariant k h)
