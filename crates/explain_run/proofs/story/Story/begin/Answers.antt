use Rattle.explain_run.proofs.Endings.{ended_runs}
use Rattle.explain_run.proofs.story.Story.begin.Goals as goal

pub returns-in_default-clause-goes_on : goal.returns-in_default-clause-goes_on
returns-in_default-clause-goes_on g c = ended_runs _ c.args.self.now.stage c.requires

pub returns-in_err-watch-clause-goes_on : goal.returns-in_err-watch-clause-goes_on
returns-in_err-watch-clause-goes_on g c = ended_runs _ c.args.self.now.stage c.requires

pub returns-in_err-begin-clause-goes_on : goal.returns-in_err-begin-clause-goes_on
returns-in_err-begin-clause-goes_on g c = ended_runs _ c.args.self.now.stage c.requires
