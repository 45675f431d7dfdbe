use Rattle.std.proofs.Common.{◌≡◌, [], ◌-◌}
use Rattle.master_wire.specs.Reading.{decisions_at}
use Rattle.master_wire.proofs.reading.read_decisions.Given as goal

-- what is left to read gives all of it
abbrev pub invariant-loop : goal.invariant-loop
invariant-loop l = decisions_at l.log.items (l.count - l.counter) l.from ≡ decisions_at [] l.count l.fn.from
