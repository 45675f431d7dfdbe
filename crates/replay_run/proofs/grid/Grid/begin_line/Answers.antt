use Rattle.script_lang.specs.declared.line.Line.TheVariants.{Comment}
use Rattle.replay_run.proofs.GridLines.{counted_stands, next_number}
use Rattle.replay_run.proofs.grid.Grid.begin_line.Goals as goal

pub returns : goal.returns
returns g c = λ settings r s. counted_stands c.args.self.now r c.args.number s (next_number c.args.self.now c.args.number Comment c.requires r s) c.requires.within
