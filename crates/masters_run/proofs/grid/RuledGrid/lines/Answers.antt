use Rattle.masters_run.proofs.grid.RuledGrid.lines.Goals as goal

pub returns : goal.returns
returns g c = λ settings s stands. c.lines.ensures settings s.run stands.grid.holds
