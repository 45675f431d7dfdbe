use Rattle.std.proofs.Common.{◌≡◌, ◌++◌, map, take, drop}
use Rattle.partition_table.specs.Rows.{marked}
use Rattle.partition_table.proofs.members.RowMembers.mark_eligible.Given as goal

-- those that the loop has passed are marked, and the others are as they were
abbrev pub invariant-loop-listed : goal.invariant-loop-listed
invariant-loop-listed l = l.listed-items ≡ map (marked l.member) (take l.listed-index l.initial.listed-items) ++ drop l.listed-index l.initial.listed-items
