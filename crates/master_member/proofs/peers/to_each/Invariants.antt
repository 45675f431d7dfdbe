use Rattle.std.proofs.Common.{◌≡◌, map, take}
use Rattle.master_member.proofs.peers.to_each.Given as goal

abbrev pub invariant-loop-member : goal.invariant-loop-member
invariant-loop-member l = l.out.items ≡ map (λ m. (m, l.message)) (take l.member-index l.members)
