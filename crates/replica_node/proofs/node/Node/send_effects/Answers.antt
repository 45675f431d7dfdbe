-- Each turn writes one effect more.
use Rattle.std.proofs.Common.{arith}
use Rattle.replica_node.proofs.SendLists.{effects_more}
use Rattle.replica_node.proofs.node.Node.send_effects.Goals as goal

pub loop-before-preserved : goal.loop-before-preserved
loop-before-preserved g c = record {
  sent = effects_more _ c.args.to c.args.version c.args.after c.loop-before.before _ _ _ (omega arith) c.loop-before.invariant.sent c.in_ok-send_effect.ensures;
  none = λ le. absurd (omega (arith, c.loop-before.invariant.none le));
}
