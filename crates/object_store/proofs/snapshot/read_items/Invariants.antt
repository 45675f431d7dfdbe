use Rattle.std.proofs.Common.{◌≡◌, [], ◌-◌}
use Rattle.object_store.specs.Reading.{items_at}
use Rattle.object_store.proofs.snapshot.read_items.Given as goal

-- what is left to read gives all of it
abbrev pub invariant-loop : goal.invariant-loop
invariant-loop l = items_at l.queue (l.count - l.counter) l.from ≡ items_at [] l.count l.fn.from
