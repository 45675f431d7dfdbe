use Rattle.std.proofs.Common.{◌≡◌}
use Rattle.std.specs.List.{list_all}
use Rattle.partition_protocol.specs.Service.{numbers_below}
use Rattle.partition_table.specs.Rows.{is_among}
use Rattle.master_member.proofs.stepping.has_all_below.Given as goal

abbrev pub invariant-loop-lower : goal.invariant-loop-lower
invariant-loop-lower l = l.all ≡ list_all (is_among l.list) (numbers_below l.lower-counter)
