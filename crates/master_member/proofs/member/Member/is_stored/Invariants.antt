use Rattle.std.proofs.Common.{◌≡◌, ◌==◌, ◌&&◌, not, filter, length}
use Rattle.std.specs.List.{list_all}
use Rattle.partition_protocol.specs.Service.{numbers_below}
use Rattle.partition_table.specs.Rows.{is_among}
use Rattle.masters_protocol.specs.Members.{is_serving, has_stored, counts_of}
use Rattle.master_member.proofs.member.Member.is_stored.Given as goal

-- each peer among the members before this one has stored all
abbrev pub invariant-loop-other : goal.invariant-loop-other
invariant-loop-other l = l.stored ≡ (is_serving l.self.role && list_all (has_stored (length l.self.log) (counts_of l.self.role)) (filter (λ p. not (p == l.number) && not (is_among l.self.told p)) (numbers_below l.other)))
