use Rattle.std.proofs.Common.{◌≡◌, ℕ, ◌<◌, ◌≤◌, length, Some, slice_get}
use Rattle.master_log.specs.declared.masters.Masters.{Masters}
use Rattle.masters_run.specs.Parts.{HasCrashedAt}
use Rattle.masters_run.proofs.grid.RuledGrid.crash.Given as goal

-- the member has crashed in the partitions so far, and the others are as they were
abbrev pub invariant-loop-masters : goal.invariant-loop-masters
invariant-loop-masters g l = record {
  count : length l.masters-items ≡ length l.initial.masters-items;
  crashed : (p : ℕ) (masters : Masters) → p < l.masters-index → slice_get l.initial.masters-items p ≡ Some masters → HasCrashedAt l.member masters l.masters-items p;
  rest : (p : ℕ) → l.masters-index ≤ p → slice_get l.masters-items p ≡ slice_get l.initial.masters-items p;
}
