use Rattle.std.proofs.Common.{[], take, sym, ◌∙◌, ap, append-nil, ◌++◌}
use Rattle.grid_cli.specs.declared.transcriber.Ran.TheVariants.{Goes, Ended, Refused, GivenUp}
use Rattle.grid_cli.proofs.TranscriberLaws.{stops_at_once, stops_in_text, ran_so}
use Rattle.grid_cli.proofs.transcriber.Transcriber.transcribe.Goals as goal

pub returns-in_default-clause-stops : goal.returns-in_default-clause-stops
returns-in_default-clause-stops g c = λ forms skips done written follows.
    ([], [], stops_at_once _ forms c.args.self.now.stage skips done written c.args.text.now follows, sym (append-nil (g.K.Sink.taken c.args.out.now)))

pub returns-in_default-write_all-clause-stops : goal.returns-in_default-write_all-clause-stops
returns-in_default-write_all-clause-stops g c = λ forms skips done written follows.
    let n = c.in_default-write_all.ensures.err in
    let h = stops_in_text _ forms c.in-Ok.ran c.run.new.self.stage skips done written c.args.text.now c.run.new.self.text.items n.0 (c.in-Ok.ensures forms skips done written follows) in
    (h.0, take n.0 c.run.new.self.text.items, h.1, n.2 ∙ ap (λ text. g.K.Sink.taken c.args.out.now ++ take n.0 text) c.as_slice.ensures.value)

pub returns-in-Goes-clause-goes : goal.returns-in-Goes-clause-goes
returns-in-Goes-clause-goes g c = λ forms skips done written follows.
    let h = ran_so _ forms Goes c.in-Ok.ran c.run.new.self.stage skips done written c.args.text.now c.run.new.self.text.items (sym c.in-Goes.is) (c.in-Ok.ensures forms skips done written follows) in
    (h.0, c.run.new.self.text.items, h.1, c.in-Ok-write_all.ensures.ok ∙ ap (λ more. g.K.Sink.taken c.args.out.now ++ more) c.as_slice.ensures.value)

pub returns-in-Ended-clause-stops : goal.returns-in-Ended-clause-stops
returns-in-Ended-clause-stops g c = λ forms skips done written follows.
    let h = ran_so _ forms Ended c.in-Ok.ran c.run.new.self.stage skips done written c.args.text.now c.run.new.self.text.items (sym c.in-Ended.is) (c.in-Ok.ensures forms skips done written follows) in
    (h.0, c.run.new.self.text.items, h.1, c.in-Ok-write_all.ensures.ok ∙ ap (λ more. g.K.Sink.taken c.args.out.now ++ more) c.as_slice.ensures.value)

pub returns-in-Refused-clause-stops : goal.returns-in-Refused-clause-stops
returns-in-Refused-clause-stops g c = λ forms skips done written follows.
    let h = ran_so _ forms (Refused c.in-Refused.line c.in-Refused.why) c.in-Ok.ran c.run.new.self.stage skips done written c.args.text.now c.run.new.self.text.items (sym c.in-Refused.is) (c.in-Ok.ensures forms skips done written follows) in
    ([], c.run.new.self.text.items, h, c.in-Ok-write_all.ensures.ok ∙ ap (λ more. g.K.Sink.taken c.args.out.now ++ more) c.as_slice.ensures.value)

pub returns-in-GivenUp-clause-stops : goal.returns-in-GivenUp-clause-stops
returns-in-GivenUp-clause-stops g c = λ forms skips done written follows.
    let h = ran_so _ forms GivenUp c.in-Ok.ran c.run.new.self.stage skips done written c.args.text.now c.run.new.self.text.items (sym c.in-GivenUp.is) (c.in-Ok.ensures forms skips done written follows) in
    (h.0, c.run.new.self.text.items, h.1, c.in-Ok-write_all.ensures.ok ∙ ap (λ more. g.K.Sink.taken c.args.out.now ++ more) c.as_slice.ensures.value)
