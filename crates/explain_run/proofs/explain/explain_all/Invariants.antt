use Rattle.std.proofs.Common.{◌≤◌}
use Rattle.explain_run.specs.Stories.{GoesOn}
use Rattle.explain_run.proofs.explain.explain_all.Given as goal

-- the story can go on, and no fault is forgotten
abbrev pub invariant-lines : goal.invariant-lines
invariant-lines g l = record {
  goes_on : GoesOn (λ b. (goal.Processor-dyn g (b.vtable, b.value)).form b.value) l.story;
  never_falls : g.K.Sink.faults l.fn.out ≤ g.K.Sink.faults l.out;
}
