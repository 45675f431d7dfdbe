use Rattle.std.proofs.Common.{◌≡◌, not, filter, take}
use Rattle.masters_protocol.specs.Members.{has_told}
use Rattle.master_member.proofs.tells.Tells.silent.Given as goal

abbrev pub invariant-loop-member : goal.invariant-loop-member
invariant-loop-member l = l.silent.items ≡ filter (λ m. not (has_told l.self m)) (take l.member-index l.members)
