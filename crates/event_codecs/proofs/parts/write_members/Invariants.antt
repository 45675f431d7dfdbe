use Rattle.std.proofs.Common.{◌≡◌, ◌++◌, map, take}
use Rattle.partition_table.specs.Rows.{number_of}
use Rattle.event_codecs.proofs.parts.write_members.Given as goal

-- the numbers of the members before this one were appended
abbrev pub invariant-loop-listed : goal.invariant-loop-listed
invariant-loop-listed l = l.out.items ≡ l.initial.out.items ++ map number_of (take l.listed-index l.members)
