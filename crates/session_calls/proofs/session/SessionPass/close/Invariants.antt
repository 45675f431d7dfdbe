use Rattle.std.proofs.Common.{◌≡◌, ◌++◌, List, length}
use Rattle.session_calls.specs.Passes.{ArePassesOf}
use Rattle.session_calls.proofs.Joining.{AreJoinedFrom}
use Rattle.session_calls.proofs.session.SessionPass.close.Given as goal

abbrev pub invariant-loop-part : goal.invariant-loop-part
invariant-loop-part g l = record {
  done : List _;
  cut : l.fn.self.passes.items ≡ l.left.items ++ done;
  joined : AreJoinedFrom g.T.Stands.key_of l.initial.passes.items l.fn.self.passes.items (length l.left.items) l.passes.items;
  of_cells : ArePassesOf l.place.cells.items l.passes.items;
}

abbrev pub decreases-loop-part : goal.decreases-loop-part
decreases-loop-part g l = length l.left.items
