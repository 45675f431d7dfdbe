use Rattle.grid_server.proofs.threads.run_threads.Goals as goal

pub returns-clause-served : goal.returns-clause-served
returns-clause-served g c = c.run_crew.ensures.served

pub returns-clause-operated : goal.returns-clause-operated
returns-clause-operated g c = c.run_crew.ensures.operated

pub returns-clause-untouched : goal.returns-clause-untouched
returns-clause-untouched g c = c.run_crew.ensures.untouched

pub returns-clause-none_came : goal.returns-clause-none_came
returns-clause-none_came g c = c.run_crew.ensures.none_came
