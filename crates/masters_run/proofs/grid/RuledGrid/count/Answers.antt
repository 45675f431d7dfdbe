use Rattle.replay_run.specs.Runs.{next_line}
use Rattle.replay_run.proofs.LineEnds.{stands_amid}
use Rattle.masters_run.proofs.grid.RuledGrid.count.Goals as goal

pub returns-clause-amid : goal.returns-clause-amid
returns-clause-amid g c = λ settings r s. stands_amid c.begin_line.new.self (next_line r) (c.begin_line.ensures settings r s)
