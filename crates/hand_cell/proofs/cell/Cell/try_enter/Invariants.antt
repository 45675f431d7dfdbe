use Rattle.std.proofs.Common.{Some}
use Rattle.hand_cell.proofs.cell.Cell.try_enter.Given as goal

abbrev pub ghosts-seize : goal.ghosts-seize
ghosts-seize g a = record { plan = Some a.self.now.table.shared.key }
