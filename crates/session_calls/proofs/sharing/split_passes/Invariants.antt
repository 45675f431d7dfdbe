use Rattle.std.proofs.Common.{◌≡◌, ◌≤◌, map, take, length}
use Rattle.std.specs.Vec.{vec_capacity}
use Rattle.session_calls.specs.Passes.{ArePassesOf, giving_up, given}
use Rattle.session_calls.proofs.Marching.{WrittenTo}
use Rattle.session_calls.proofs.sharing.split_passes.Given as goal

abbrev pub invariant-loop-at : goal.invariant-loop-at
invariant-loop-at g l = record {
  left : WrittenTo (giving_up l.names) l.at l.initial.passes.items l.passes.items;
  parts : l.parts.items ≡ map (given l.names) (take l.at l.initial.passes.items);
  of_cells : ArePassesOf l.place.cells.items l.passes.items;
  room : length l.initial.passes.items ≤ vec_capacity l.parts;
}
