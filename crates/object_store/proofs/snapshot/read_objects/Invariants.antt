use Rattle.std.proofs.Common.{[], ◌-◌}
use Rattle.object_store.specs.Reading.{stored_at}
use Rattle.object_store.proofs.ReadLoops.{ReadSoFar}
use Rattle.object_store.proofs.snapshot.read_objects.Given as goal

-- what was read so far is kept, and what is left to read gives all of it
abbrev pub invariant-loop : goal.invariant-loop
invariant-loop l = ReadSoFar l.last l.store (l.count - l.counter) l.from (stored_at [] l.count l.fn.from)
