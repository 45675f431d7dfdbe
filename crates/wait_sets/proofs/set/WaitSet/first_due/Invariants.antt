use Rattle.std.proofs.Common.{◌≡◌, take, drop}
use Rattle.std.specs.List.{position_from}
use Rattle.wait_sets.specs.WaitSets.{is_due}
use Rattle.wait_sets.proofs.set.WaitSet.first_due.Given as goal

abbrev pub invariant-loop-place : goal.invariant-loop-place
invariant-loop-place l = position_from (is_due l.now) 0 (take l.end l.self-inside.waiting.items) ≡ position_from (is_due l.now) l.place (drop l.place (take l.end l.self-inside.waiting.items))
