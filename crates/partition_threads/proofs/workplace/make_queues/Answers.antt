use Rattle.std.proofs.Common.{arith}
use Rattle.std.proofs.lemmas.Grind.{common_steps}
use Rattle.job_queues.specs.Roster.{roster_of}
use Rattle.partition_threads.proofs.Queues.{tokens_more, tokens_same}
use Rattle.partition_threads.proofs.workplace.make_queues.Goals as goal

pub loop-preserved : goal.loop-preserved
loop-preserved g c =
    let roster = roster_of c.args.cells.now in
    let more = tokens_more roster c.loop.queues.items c.loop.tokens.items c.in_ok-queue.queue c.in_ok-queue.token c.loop.invariant.tokens c.in_ok-queue.ensures.token c.in_ok-queue.ensures.cells in record {
      long = grind (arith, common_steps);
      tokens = tokens_same roster _ _ _ _ c.in_ok-push.ensures.items c.in_ok-push-2.ensures.items more;
    }
