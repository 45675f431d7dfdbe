use Rattle.near_run_laws.proofs.Pieces.{every_piece_is_heard}
use Rattle.near_run_laws.proofs.every_piece_is_heard.Goals as goal

pub returns : goal.returns
returns c = every_piece_is_heard
