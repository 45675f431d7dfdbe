use Rattle.grid_cli.specs.declared.status.Status.TheVariants.{WriteFault}
use Rattle.grid_sample.specs.Samples.{sampled_text, IsSummaryText, StopsAtScript}
use Rattle.grid_sample.proofs.Samples.{is_summary}
use Rattle.grid_sample.proofs.Writing.{wrote_front, wrote_all}
use Rattle.grid_sample.proofs.numbered.tell_script.Goals as goal

pub returns-in_default-write_all-clause-stops : goal.returns-in_default-write_all-clause-stops
returns-in_default-write_all-clause-stops g c =
    wrote_front (g.K.Sink.taken c.args.out.now) (g.K.Sink.taken c.write_all.new.sink) (StopsAtScript c.args.number WriteFault)
    c.as_slice.result.now c.write_sampled.new.text.items c.new-text.result.items (sampled_text c.in-Ok.sampled)
    c.as_slice.ensures.value c.in-Ok-write_sampled.ensures c.new-text.ensures.items c.in_default-write_all.ensures.err
    (λ text front. (c.in-Ok.sampled, record { ends = c.in-Ok.ensures.ends; certain = c.in-Ok.ensures.certain }, front))

pub returns-in-Done-clause-told : goal.returns-in-Done-clause-told
returns-in-Done-clause-told g c =
    wrote_all (g.K.Sink.taken c.args.out.now) (g.K.Sink.taken c.write_all.new.sink) (IsSummaryText c.args.number)
    c.as_slice.result.now c.write_sampled.new.text.items c.new-text.result.items (sampled_text c.in-Ok.sampled)
    c.as_slice.ensures.value c.in-Ok-write_sampled.ensures c.new-text.ensures.items c.in-Ok-write_all.ensures.ok
    (is_summary c.args.number c.in-Ok.sampled c.in-Done.field-0 c.in-Done.is (record { ends = c.in-Ok.ensures.ends; certain = c.in-Ok.ensures.certain }))
