use Rattle.masters_run.proofs.grid.RuledGrid.world.Goals as goal

pub returns-clause-there : goal.returns-clause-there
returns-clause-there g c = λ settings s stands low. c.world.ensures.there settings s.run stands.grid.holds low
