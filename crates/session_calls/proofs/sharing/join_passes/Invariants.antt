use Rattle.std.proofs.Common.{◌≡◌, ◌++◌, List, Some, map, length}
use Rattle.session_calls.specs.Passes.{ArePassesOf}
use Rattle.session_calls.proofs.Joining.{AreJoinedFrom}
use Rattle.session_calls.proofs.sharing.join_passes.Given as goal

abbrev pub invariant-loop-other : goal.invariant-loop-other
invariant-loop-other g l = record {
  done : List _;
  cut : l.fn.others.items ≡ l.left.items ++ done;
  joined : AreJoinedFrom g.T.Stands.key_of l.initial.passes.items (map (λ other. Some other) l.fn.others.items) (length l.left.items) l.passes.items;
  of_cells : ArePassesOf l.place.cells.items l.passes.items;
}

abbrev pub decreases-loop-other : goal.decreases-loop-other
decreases-loop-other g l = length l.left.items
