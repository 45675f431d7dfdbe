use Rattle.std.proofs.Common.{◌≤◌, length, vec_len}
use Rattle.live_grid.specs.Grids.{IsGridPassOf}
use Rattle.counted_calls.specs.Callers.{HaveAllMade}
use Rattle.counted_calls.specs.Gathered.{HasGathered}
use Rattle.counted_calls.specs.declared.requests.TheConstants.{SESSIONS}
use Rattle.counted_calls.proofs.opening.take_back.Given as goal

abbrev pub invariant-loop-caller : goal.invariant-loop-caller
invariant-loop-caller g l = record {
  of_grid : IsGridPassOf l.stage.grid l.pass;
  few : length l.left.items ≤ SESSIONS;
  made : HaveAllMade l.stage.grid l.stage.key l.left.items;
  gathered : HasGathered l.stage.grid l.stage.key (length l.left.items) l.answered l.pass;
}

abbrev pub decreases-loop-caller : goal.decreases-loop-caller
decreases-loop-caller g l = vec_len l.left
