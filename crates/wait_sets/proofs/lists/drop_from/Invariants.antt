use Rattle.std.proofs.Common.{◌≡◌, ◌++◌, not, filter, map, take, drop, sum_by}
use Rattle.wait_sets.specs.WaitSets.{is_of}
use Rattle.wait_sets.specs.Lists.{if_some}
use Rattle.wait_sets.proofs.lists.drop_from.Given as goal

-- the lists that the loop has passed have lost the waiters of the connection, and are counted; the others are as they were
abbrev pub invariant-loop-list : goal.invariant-loop-list
invariant-loop-list l =
    (l.lists ≡ map (filter (λ waiter. not (is_of l.conn waiter))) (take l.list-index l.initial.lists) ++ drop l.list-index l.initial.lists)
    × (l.busy ≡ sum_by if_some (take l.list-index l.lists))
