use Rattle.std.proofs.Common.{◌≡◌, ℕ, [], length, Some, slice_get}
use Rattle.master_log.specs.declared.masters.Masters.{Masters}
use Rattle.master_log.specs.Standing.{StandsFor, size_of}
use Rattle.masters_run.proofs.grid.opening_masters.Given as goal

-- each partition so far has its masters, which were asked nothing
abbrev pub invariant-loop : goal.invariant-loop
invariant-loop l = record {
  count : length l.masters.items ≡ l.counter;
  each : (p : ℕ) (masters : Masters) → slice_get l.masters.items p ≡ Some masters → (size_of masters ≡ l.members) × StandsFor masters [];
}
