use Rattle.replay_run.proofs.grid.Grid.is_open.Goals as goal

pub returns : goal.returns
returns g c = λ settings r s. c.is_open.ensures r s.holds.table.connections
