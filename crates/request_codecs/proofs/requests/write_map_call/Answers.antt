use Rattle.std.proofs.Common.{◌≡◌, ◌++◌, flat_map, ap, ◌∙◌, List, ℕ, ℤ, rules, arith}
use Rattle.fixed_fields.specs.Fields.{int64_bytes}
use Rattle.fixed_fields.specs.Spelled.{request_head}
use Rattle.map_codecs.specs.SpelledCalls.{kind_of_call, call_fields, parts_of}
use Rattle.request_codecs.specs.Numbers.{numbers_in}
use Rattle.request_codecs.proofs.Writing.{request_written}
use Rattle.request_codecs.proofs.requests.write_map_call.Goals as goal

pub returns : goal.returns
returns c =
    let call = c.args.call.now in
    let head = request_head (kind_of_call call) c.args.correlation c.args.partition in
    let first : c.in_ok-first.first.items ≡ head = first_of (search rules, grind arith, cc) in
    let payload : c.as_slice.result.now ≡ head ++ call_fields call =
    c.as_slice.ensures.value ∙ c.in_ok-write_numbers.ensures
    ∙ ap (λ (front : List ℕ). front ++ flat_map int64_bytes (numbers_in c.numbers_of.result)) first
    ∙ ap (λ (numbers : List ℤ). head ++ flat_map int64_bytes numbers) c.numbers_of.ensures in
    c.from_vec.ensures ∙ request_written c.write_map_parts.new.out.items c.write_part.new.out.items c.as_slice.result.now (head ++ call_fields call) c.new-request.result.items (parts_of call)
    c.new-request.ensures.items payload c.in_ok-write_part.ensures c.in_ok-write_map_parts.ensures
