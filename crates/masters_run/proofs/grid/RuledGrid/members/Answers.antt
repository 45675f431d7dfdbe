use Rattle.masters_run.proofs.grid.RuledGrid.members.Goals as goal

pub returns : goal.returns
returns g c = λ settings s stands. c.members.ensures settings s.run stands.grid.holds
