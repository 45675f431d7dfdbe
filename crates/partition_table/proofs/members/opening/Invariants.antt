use Rattle.std.proofs.Common.{◌≡◌, map}
use Rattle.partition_table.specs.Rows.{eligible_member, members_from}
use Rattle.partition_table.proofs.members.opening.Given as goal

-- the members so far, in order
abbrev pub invariant-loop-k : goal.invariant-loop-k
invariant-loop-k l = l.opening.items ≡ map eligible_member (members_from l.members l.k l.partition)
