use Rattle.std.proofs.lemmas.Result.{on_ok_weaker}
use Rattle.compose_words.proofs.Writing.{parts_written}
use Rattle.compose_words.proofs.message.write_parts.Goals as goal

pub returns-in_ok-write_inner_parts-in-Some-clause-frames : goal.returns-in_ok-write_inner_parts-in-Some-clause-frames
returns-in_ok-write_inner_parts-in-Some-clause-frames c =
    on_ok_weaker c.write_part.result
    (λ written. parts_written c.args.out.now.items c.write_inner_parts.new.out.items c.write_part.new.out.items c.as_slice.result.now c.args.parts.now c.in-Some.others.now c.in-Some.last.now
    c.in-Some.ensures.cases.0 c.as_slice.ensures c.in_ok-write_inner_parts-in-Some.ensures.frames written)
    c.write_part.ensures.frame
