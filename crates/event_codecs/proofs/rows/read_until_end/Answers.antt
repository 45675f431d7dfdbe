use Rattle.std.proofs.Common.{sym, ap, ◌∙◌}
use Rattle.fixed_fields.specs.Frames.{next_data}
use Rattle.event_codecs.proofs.Listing.{row_taken}
use Rattle.event_codecs.proofs.rows.read_until_end.Goals as goal

pub loop-frame-preserved : goal.loop-frame-preserved
loop-frame-preserved c =
    let held = ap next_data (sym c.new.ensures) ∙ c.in_ok-data.ensures.read in
    row_taken c.loop-frame.rows.items c.push.new.self.items c.loop-frame.rest.now c.in-Some.frame.now c.in-Some.behind.now c.in_ok-data.field-0.now c.in_ok-read_row.field-0 _
    c.in-Some.ensures.cases.0 (sym c.ends_list.ensures ∙ c.if-ends_list.false) held c.in_ok-read_row.ensures c.in_ok-push.ensures.items c.loop-frame.invariant
