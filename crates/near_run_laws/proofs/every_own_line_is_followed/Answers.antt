use Rattle.near_run_laws.proofs.OwnLines.{every_opening_line_is_followed, every_get_line_is_followed}
use Rattle.near_run_laws.proofs.every_own_line_is_followed.Goals as goal

pub returns : goal.returns
returns c = record { opening = every_opening_line_is_followed; get = every_get_line_is_followed }
