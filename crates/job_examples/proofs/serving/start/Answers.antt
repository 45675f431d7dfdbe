use Rattle.job_examples.proofs.serving.start.Goals as goal

pub returns-in-Ok : goal.returns-in-Ok
returns-in-Ok g c = let started = c.in-Ok.ensures.started in (started.terms, started.awaits)
