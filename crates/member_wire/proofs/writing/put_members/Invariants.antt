use Rattle.std.proofs.Common.{◌≡◌, ◌++◌, take}
use Rattle.std.specs.List.{flat_map}
use Rattle.member_wire.specs.Spelling.{member_bytes}
use Rattle.member_wire.proofs.writing.put_members.Given as goal

-- the members before this one are spelled
abbrev pub invariant-loop-listed : goal.invariant-loop-listed
invariant-loop-listed l = l.out.items ≡ l.initial.out.items ++ flat_map member_bytes (take l.listed-index l.members)
