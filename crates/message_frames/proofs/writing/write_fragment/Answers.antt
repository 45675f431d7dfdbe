-- The header, the frames but for the last one, and that one as the fragment's final frame.
use Rattle.std.proofs.lemmas.Result.{on_ok_weaker}
use Rattle.message_frames.proofs.Packing.{fragment_written}
use Rattle.message_frames.proofs.writing.write_fragment.Goals as goal

pub returns-clause-ok : goal.returns-clause-ok
returns-clause-ok c =
    let parts = rw c.unwrap.ensures at c.split_last.ensures.cases in
    on_ok_weaker c.write_payload-2.result
    (λ written. fragment_written c.args.id c.args.first c.args.last c.args.frames.now c.unwrap.result.1.now c.unwrap.result.0.now c.header_flags.result c.to_le_bytes.result c.as_slice.result.now
    c.args.out.now.items c.write_payload.new.out.items c.write_frames-2.new.out.items c.write_payload-2.new.out.items
    c.if-last.false parts.0 c.header_flags.ensures c.to_le_bytes.ensures c.as_slice.ensures c.in_ok-write_payload.ensures.ok c.in_ok-write_frames.ensures.ok written)
    c.write_payload-2.ensures.ok
