use Rattle.std.proofs.Common.{◌≡◌, map}
use Rattle.std.specs.Prelude.{vec_len}
use Rattle.partition_protocol.specs.Service.{numbers_below}
use Rattle.masters_protocol.specs.Machine.{opening_member}
use Rattle.master_log.proofs.masters.opening_members.Given as goal

abbrev pub invariant-loop-number : goal.invariant-loop-number
invariant-loop-number l = record { len : vec_len l.members ≡ l.number; items : l.members.items ≡ map opening_member (numbers_below l.number) }
