use Rattle.std.proofs.Common.{◌≤◌, List, length}
use Rattle.script_lang.specs.declared.line.Line.{Line}
use Rattle.sample_run.specs.SampleRuns.{IsTextOf}
use Rattle.sample_run.proofs.Sampling.{HaveRun}
use Rattle.sample_run.proofs.lines.run_lines.Given as goal

-- Whichever lines the text has, some of them ran and the others are left.
abbrev pub invariant-texts : goal.invariant-texts
invariant-texts g l = record {
  ran : (lines : List Line) → IsTextOf l.fn.text lines → HaveRun (λ b. (goal.Processor-dyn g (b.vtable, b.value)).form b.value) l.grid lines l.rest;
  within : length l.rest ≤ length l.fn.text;
}

abbrev pub decreases-texts : goal.decreases-texts
decreases-texts g l = length l.rest
