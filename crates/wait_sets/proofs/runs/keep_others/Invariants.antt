use Rattle.std.proofs.Common.{not}
use Rattle.wait_sets.specs.WaitSets.{is_of, wish}
use Rattle.wait_sets.proofs.Parts.{StayedSoFar}
use Rattle.wait_sets.proofs.runs.keep_others.Given as goal

abbrev pub invariant-loop-i : goal.invariant-loop-i
invariant-loop-i l = StayedSoFar wish (λ waiter. not (is_of l.conn waiter)) l.fn.runs.items l.waiting.items l.i l.runs.items l.start
