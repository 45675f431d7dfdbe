use Rattle.compose_words.proofs.Writing.{next_inner}
use Rattle.compose_words.proofs.message.write_inner_parts.Goals as goal

pub loop-part-preserved : goal.loop-part-preserved
loop-part-preserved c =
    next_inner c.args.out.now.items c.loop-part.out.items c.write_part.new.out.items c.as_slice.result.now c.args.parts.now c.loop-part.part-index c.part-item.result
    c.loop-part-test.true c.part-item.is c.as_slice.ensures c.loop-part.invariant c.in_ok-write_part.ensures.frame
