use Rattle.std.proofs.Common.{◌≡◌, [], replicate}
use Rattle.wait_sets.proofs.lists.WaitLists.new.Given as goal

-- so many lists of nobody
abbrev pub invariant-loop : goal.invariant-loop
invariant-loop l = l.lists.items ≡ replicate l.counter []
