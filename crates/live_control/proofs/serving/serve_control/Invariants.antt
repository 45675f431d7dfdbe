use Rattle.std.proofs.Common.{◌≤◌}
use Rattle.live_control.specs.Running.{MayServe}
use Rattle.live_control.proofs.Ending.{IsServing}
use Rattle.live_control.proofs.serving.serve_control.Given as goal

abbrev pub invariant-loop : goal.invariant-loop
invariant-loop g l = record {
  serving : IsServing l.grid l.members l.reader (g.S.Source.given l.fn.script) (g.S.Source.given l.script) (g.K.Sink.taken l.fn.out) (g.K.Sink.taken l.out) l.fn.pass l.pass;
  may : MayServe l.grid l.pass;
  reads : g.S.Source.faults l.fn.script ≤ g.S.Source.faults l.script;
  writes : g.K.Sink.faults l.fn.out ≤ g.K.Sink.faults l.out;
}
