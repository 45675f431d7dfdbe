use Rattle.hand_cell.specs.Told.{event_of}
use Rattle.hand_cell.proofs.turn.Turn.leave.Given as goal

abbrev pub ghosts-pass_on : goal.ghosts-pass_on
ghosts-pass_on g a = record { event = event_of a.ran }
