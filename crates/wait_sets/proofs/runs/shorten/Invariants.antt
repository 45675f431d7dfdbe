use Rattle.std.proofs.Common.{◌≡◌, ◌++◌, take, drop}
use Rattle.wait_sets.specs.Runs.{shortened}
use Rattle.wait_sets.proofs.runs.shorten.Given as goal

abbrev pub invariant-loop-i : goal.invariant-loop-i
invariant-loop-i l = (l.runs.items ≡ l.fn.runs.items) × (shortened l.fn.runs.items l.fn.place ≡ take l.i l.fn.runs.items ++ shortened (drop l.i l.fn.runs.items) l.left)
