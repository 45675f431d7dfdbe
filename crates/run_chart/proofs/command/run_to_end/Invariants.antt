use Rattle.explain_run.specs.Stories.{GoesOn}
use Rattle.run_chart.proofs.command.run_to_end.Given as goal

-- the story can go on
abbrev pub invariant-lines : goal.invariant-lines
invariant-lines g l = GoesOn (λ b. (goal.Processor-dyn g (b.vtable, b.value)).form b.value) l.story
