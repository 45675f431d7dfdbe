use Rattle.std.proofs.Common.{◌≡◌, ◌++◌, map}
use Rattle.run_tale.specs.Tales.{told_in, step_of, at_step}
use Rattle.run_tale.proofs.tale.Tale.push_all.Given as goal

-- those so far were told
abbrev pub invariant-loop-happening : goal.invariant-loop-happening
invariant-loop-happening l = record {
  told : told_in l.self ≡ told_in l.fn.self ++ map (at_step l.fn.self) l.yielded;
  step : step_of l.self ≡ step_of l.fn.self;
}
