-- Both notes, one after the other.
use Rattle.std.proofs.Common.{subst, sym}
use Rattle.replica_node.specs.Decisions.{sent_by}
use Rattle.replica_node.specs.Sending.{Sends}
use Rattle.replica_node.proofs.SendLists.{sends_append}
use Rattle.replica_node.proofs.reaction.Reaction.write.Goals as goal

pub returns-in_ok-write_drained-in-KeepsAck : goal.returns-in_ok-write_drained-in-KeepsAck
returns-in_ok-write_drained-in-KeepsAck c = λ k.
    subst (λ r. Sends k (sent_by c.args.service c.args.version c.args.from r) c.args.out.now c.write_drained.new.out) (sym c.in-KeepsAck.is)
    (sends_append k _ _ _ _ _ (c.in_ok-write_joined-in-KeepsAck.ensures k) (c.in_ok-write_drained-in-KeepsAck.ensures k))
