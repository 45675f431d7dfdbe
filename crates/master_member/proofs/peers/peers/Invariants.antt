use Rattle.std.proofs.Common.{◌≡◌, ◌==◌, ◌&&◌, not, filter}
use Rattle.partition_protocol.specs.Service.{numbers_below}
use Rattle.partition_table.specs.Rows.{is_among}
use Rattle.master_member.proofs.peers.peers.Given as goal

-- the peers among the members before this one
abbrev pub invariant-loop-member : goal.invariant-loop-member
invariant-loop-member l = l.peers.items ≡ filter (λ p. not (p == l.number) && not (is_among l.told p)) (numbers_below l.member)
