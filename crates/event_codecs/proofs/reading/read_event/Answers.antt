use Rattle.std.proofs.Common.{sym, ◌∙◌}
use Rattle.event_codecs.proofs.Refusals.{told_unknown, told_bad}
use Rattle.event_codecs.proofs.reading.read_event.Goals as goal

pub returns-in-Some-kind_of-clause-unknown : goal.returns-in-Some-kind_of-clause-unknown
returns-in-Some-kind_of-clause-unknown c =
    told_unknown c.args.message.now c.in-Some.first.now c.in-Some.frames.now c.in-Some-kind_of.kind c.read_kind.result (sym c.as_slice.ensures ∙ c.in-Some.ensures.cases.0) (sym c.in-Some-kind_of.ensures) c.read_kind.ensures.read c.read_kind.ensures.unknown

pub returns-in-Some-kind_of-clause-bad : goal.returns-in-Some-kind_of-clause-bad
returns-in-Some-kind_of-clause-bad c =
    told_bad c.args.message.now c.in-Some.first.now c.in-Some.frames.now c.in-Some-kind_of.kind c.read_kind.result (sym c.as_slice.ensures ∙ c.in-Some.ensures.cases.0) (sym c.in-Some-kind_of.ensures) c.read_kind.ensures.read
