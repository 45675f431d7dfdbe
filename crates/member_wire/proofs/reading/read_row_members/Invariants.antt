use Rattle.std.proofs.Common.{◌≡◌, [], ◌-◌}
use Rattle.member_wire.specs.Reading.{members_at}
use Rattle.member_wire.proofs.reading.read_row_members.Given as goal

-- what is left to read gives all of it
abbrev pub invariant-loop : goal.invariant-loop
invariant-loop l = members_at l.listed.items (l.count - l.counter) l.from ≡ members_at [] l.count l.fn.from
