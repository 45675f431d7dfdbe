use Rattle.std.proofs.Common.{◌≡◌, not, filter, take}
use Rattle.masters_protocol.specs.Members.{has_stored}
use Rattle.master_member.proofs.counts.Counts.behind.Given as goal

abbrev pub invariant-loop-member : goal.invariant-loop-member
invariant-loop-member l = l.behind.items ≡ filter (λ m. not (has_stored l.length l.self m)) (take l.member-index l.members)
