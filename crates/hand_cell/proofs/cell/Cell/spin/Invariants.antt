use Rattle.std.proofs.Common.{◌≡◌}
use Rattle.hand_cell.specs.Rule.{IsSamePass}
use Rattle.hand_cell.proofs.cell.Cell.spin.Given as goal

abbrev pub invariant-loop : goal.invariant-loop
invariant-loop g l = IsSamePass l.initial.place l.place × (l.place.me ≡ l.initial.place.me)
