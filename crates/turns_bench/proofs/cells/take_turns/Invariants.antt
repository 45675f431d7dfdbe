use Rattle.hand_cell.specs.Calls.{IsPassOf}
use Rattle.turns_bench.proofs.cells.take_turns.Given as goal

abbrev pub invariant-loop : goal.invariant-loop
invariant-loop g l = IsPassOf l.cell l.pass
