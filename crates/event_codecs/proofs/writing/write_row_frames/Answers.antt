use Rattle.std.proofs.Common.{◌≡◌, List, ℕ, ap, ◌∙◌, ◌++◌}
use Rattle.event_codecs.specs.Writing.{row_bytes, seen}
use Rattle.event_codecs.proofs.Appending.{next_written}
use Rattle.event_codecs.proofs.writing.write_row_frames.Goals as goal

pub loop-placed-preserved : goal.loop-placed-preserved
loop-placed-preserved c =
    let placed = c.placed-item.result in
    let payload : c.as_slice.result.now ≡ row_bytes (seen placed) = c.as_slice.ensures.value ∙ c.in_ok-write_row.ensures.bytes ∙ ap (λ (front : List ℕ). front ++ row_bytes (seen placed)) c.clear.ensures.items in
    next_written c.args.out.now.items c.loop-placed.out.items c.write_part.new.out.items c.as_slice.result.now c.args.rows.now c.loop-placed.placed-index placed
    c.loop-placed-test.true c.placed-item.is c.loop-placed.invariant payload c.in_ok-write_row.ensures.counted c.in_ok-write_part.ensures
