-- Without a live master that serves nothing comes of it.
use Rattle.std.proofs.Common.{refl, sym, ◌∙◌}
use Rattle.masters_protocol.specs.Members.{NothingDone}
use Rattle.masters_protocol.specs.Machine.{Propose}
use Rattle.master_log.specs.Standing.{run_of}
use Rattle.master_log.proofs.Proposing.{propose_nowhere}
use Rattle.master_log.proofs.Runs.{ran_to}
use Rattle.master_log.proofs.masters.Masters.propose.Goals as goal

pub returns-in-None-clause-answered : goal.returns-in-None-clause-answered
returns-in-None-clause-answered c events stands =
    let old = c.args.self.now in
    let w = run_of old events in
    ran_to old old events stands refl (Propose c.args.decision.now) w NothingDone (propose_nowhere w c.args.decision.now (sym (c.serving.ensures events stands) ∙ c.in-None.is)) stands.shows
