use Rattle.std.proofs.Common.{◌≡◌, ◌∙◌, pos, rules, arith}
use Rattle.fixed_fields.specs.Spelled.{request_head}
use Rattle.queue_codecs.specs.SpelledCalls.{kind_of_call, parts_of}
use Rattle.request_codecs.proofs.Writing.{request_written}
use Rattle.request_codecs.proofs.requests.write_queue_call.Goals as goal

pub returns : goal.returns
returns c =
    let call = c.args.call.now in
    let head = request_head (kind_of_call call) c.args.correlation (pos c.args.partition) in
    let payload : c.as_slice.result.now ≡ head = first_of (search rules, grind arith, cc) in
    c.from_vec.ensures ∙ request_written c.write_queue_parts.new.out.items c.write_part.new.out.items c.as_slice.result.now head c.new-request.result.items (parts_of call)
    c.new-request.ensures.items payload c.in_ok-write_part.ensures c.in_ok-write_queue_parts.ensures
