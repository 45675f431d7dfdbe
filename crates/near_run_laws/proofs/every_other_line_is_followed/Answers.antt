use Rattle.near_run_laws.proofs.Lines.{every_other_line_is_followed}
use Rattle.near_run_laws.proofs.every_other_line_is_followed.Goals as goal

pub returns : goal.returns
returns c = every_other_line_is_followed
