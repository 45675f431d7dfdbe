use Rattle.std.proofs.Common.{Err, ap}
use Rattle.grid_sample.proofs.Samples.{stopped_at_counts, ended}
use Rattle.grid_sample.proofs.sample.run_sample.Goals as goal

pub returns-in-Ok : goal.returns-in-Ok
returns-in-Ok g c =
    ended c.args.number c.args.forms.now (g.K.Sink.taken c.args.out.now) (g.K.Sink.faults c.args.out.now)
    (g.K.Sink.taken c.tell_script.new.out) (g.K.Sink.faults c.tell_script.new.out) c.in_default.ensures.told c.in_default.ensures.never_falls
    (g.K.Sink.taken c.tell_counts.new.out) (g.K.Sink.faults c.tell_counts.new.out) c.in-Ok.held c.in-Ok.ensures.told

pub returns-in-Err-tell_counts : goal.returns-in-Err-tell_counts
returns-in-Err-tell_counts g c =
    let stopped = c.in-Err-tell_counts in
    stopped_at_counts c.args.number c.args.forms.now (g.K.Sink.taken c.args.out.now) (g.K.Sink.faults c.args.out.now)
    (g.K.Sink.taken c.tell_script.new.out) (g.K.Sink.faults c.tell_script.new.out) c.in_default.ensures.told c.in_default.ensures.never_falls
    (g.K.Sink.taken c.tell_counts.new.out) (g.K.Sink.faults c.tell_counts.new.out) stopped.status stopped.ensures.stops (λ e. stopped.ensures.cause (ap Err e))
