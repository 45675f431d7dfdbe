use Rattle.std.proofs.Common.{refl, subst}
use Rattle.grid_cli.specs.declared.status.Status.TheVariants.{WriteFault}
use Rattle.counted_calls.specs.Counts.{HasCounted}
use Rattle.grid_sample.specs.Samples.{counted_text, StopsAtCounts}
use Rattle.grid_sample.specs.declared.counts.TheConstants.{CAPACITY}
use Rattle.grid_sample.proofs.Writing.{wrote_front}
use Rattle.grid_sample.proofs.counts.tell_counts.Goals as goal

pub returns-in_default-write_all-clause-stops : goal.returns-in_default-write_all-clause-stops
returns-in_default-write_all-clause-stops g c =
    let made = c.in-Ok-count_calls in
    wrote_front (g.K.Sink.taken c.args.out.now) (g.K.Sink.taken c.write_all.new.sink) (StopsAtCounts c.args.forms.now WriteFault)
    c.as_slice.result.now c.write_counts.new.text.items c.new-text.result.items (counted_text made.counts)
    c.as_slice.ensures.value c.in-Ok-write_counts.ensures c.new-text.ensures.items c.in_default-write_all.ensures.err
    (λ text front. (
      made.grid,
      made.pass,
      counted_text made.counts,
      record {
        counts = made.counts;
        counted = subst (λ key. HasCounted c.args.forms.now CAPACITY key made.grid made.pass made.counts) c.in-Ok.ensures made.ensures;
        text_is = refl;
      },
      front,
    ))
